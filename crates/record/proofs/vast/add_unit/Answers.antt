use Rattle.record.proofs.BoundLaws.{unit-some, unit-none}
use Rattle.record.proofs.vast.add_unit.Goals as goal

pub returns-in-4 : goal.returns-in-4
returns-in-4 c = search unit-some

pub returns-in_default : goal.returns-in_default
returns-in_default c = search unit-none
