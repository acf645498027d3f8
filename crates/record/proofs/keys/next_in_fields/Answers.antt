use Rattle.record.proofs.KeyLaws.{keyless-here, field-key-laws}
use Rattle.record.proofs.SeekLaws.{sought-nearer}
use Rattle.record.proofs.keys.next_in_fields.Goals as goal

pub loop-after-init : goal.loop-after-init
loop-after-init c = search keyless-here

pub returns-in_default : goal.returns-in_default
returns-in_default c = search field-key-laws

pub returns-in-Some-next : goal.returns-in-Some-next
returns-in-Some-next c = search field-key-laws

pub loop-after-smaller : goal.loop-after-smaller
loop-after-smaller c = search sought-nearer

pub loop-after-preserved : goal.loop-after-preserved
loop-after-preserved c = search field-key-laws
