use Rattle.compare.proofs.ConstantLaws.{slot_laws}
use Rattle.compare.proofs.constants.slot_holds.Goals as goal

pub returns-in_default : goal.returns-in_default
returns-in_default c = search slot_laws

pub returns-in_default-generation : goal.returns-in_default-generation
returns-in_default-generation c = search slot_laws

pub returns : goal.returns
returns c = search slot_laws
