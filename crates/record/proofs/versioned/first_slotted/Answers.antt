use Rattle.record.proofs.VersionedLaws.{first-slotted-laws}
use Rattle.record.proofs.versioned.first_slotted.Goals as goal

pub returns-in-Some : goal.returns-in-Some
returns-in-Some c = search first-slotted-laws

pub returns-then-is_text : goal.returns-then-is_text
returns-then-is_text c = search first-slotted-laws

pub returns : goal.returns
returns c = search first-slotted-laws
