use Rattle.record.proofs.SeekLaws.{sought-nearer}
use Rattle.pointers.proofs.PointerLaws.{faults-end, faults-on, faults-stop}
use Rattle.pointers.proofs.check.first_fault.Goals as goal

pub returns-in_default : goal.returns-in_default
returns-in_default c = search faults-end

pub returns-in-Some-field_fault : goal.returns-in-Some-field_fault
returns-in-Some-field_fault c = search faults-stop

pub loop-place-smaller : goal.loop-place-smaller
loop-place-smaller c = search sought-nearer

pub loop-place-preserved : goal.loop-place-preserved
loop-place-preserved c = search faults-on
