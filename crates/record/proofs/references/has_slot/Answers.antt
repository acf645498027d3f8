use Rattle.record.proofs.ReferenceLaws.{has-slot-laws}
use Rattle.record.proofs.references.has_slot.Goals as goal

pub returns-in_default : goal.returns-in_default
returns-in_default c = search has-slot-laws

pub returns-in_default-slot : goal.returns-in_default-slot
returns-in_default-slot c = search has-slot-laws

pub returns : goal.returns
returns c = search has-slot-laws
