use Rattle.record.proofs.KeyLaws.{idle-at, walk-laws, struct-nearer}
use Rattle.record.proofs.keys.next_in_structs.Goals as goal

pub loop-after-init : goal.loop-after-init
loop-after-init c = search idle-at

pub returns-in_default : goal.returns-in_default
returns-in_default c = search walk-laws

pub returns-in-Keyed : goal.returns-in-Keyed
returns-in-Keyed c = search walk-laws

pub loop-after-smaller : goal.loop-after-smaller
loop-after-smaller c = search struct-nearer

pub loop-after-preserved : goal.loop-after-preserved
loop-after-preserved c = search walk-laws
