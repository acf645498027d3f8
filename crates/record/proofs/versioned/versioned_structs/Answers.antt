use Rattle.record.proofs.SeekLaws.{sought-nearer}
use Rattle.record.proofs.VersionedLaws.{versioned-laws}
use Rattle.record.proofs.versioned.versioned_structs.Goals as goal

pub loop-place-init : goal.loop-place-init
loop-place-init c = search versioned-laws

pub returns-in_default : goal.returns-in_default
returns-in_default c = search versioned-laws

pub loop-place-smaller-in-Some-opt_text_at : goal.loop-place-smaller-in-Some-opt_text_at
loop-place-smaller-in-Some-opt_text_at c = search sought-nearer

pub loop-place-preserved-in-Some-opt_text_at : goal.loop-place-preserved-in-Some-opt_text_at
loop-place-preserved-in-Some-opt_text_at c = search versioned-laws

pub loop-place-smaller : goal.loop-place-smaller
loop-place-smaller c = search sought-nearer

pub loop-place-preserved : goal.loop-place-preserved
loop-place-preserved c = search versioned-laws
