use Rattle.compare.proofs.GenerationLaws.{slot_laws}
use Rattle.compare.proofs.generations.check_slot.Goals as goal

pub returns-in_default : goal.returns-in_default
returns-in_default c = search slot_laws

pub returns-in_default-held : goal.returns-in_default-held
returns-in_default-held c = search slot_laws

pub returns : goal.returns
returns c = search slot_laws
