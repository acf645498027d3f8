use borrow.Enum.Refused.{opened}
use Rattle.layout.proofs.SpotLaws.{first-laws}
use Rattle.layout.proofs.spots.first_spot.Goals as goal

pub returns-then-byte_at-ne9 : goal.returns-then-byte_at-ne9
returns-then-byte_at-ne9 c = search first-laws

pub returns-in_default : goal.returns-in_default
returns-in_default c = search first-laws

pub returns-in_default-command : goal.returns-in_default-command
returns-in_default-command c = search (first-laws, opened)

pub returns : goal.returns
returns c = search first-laws
