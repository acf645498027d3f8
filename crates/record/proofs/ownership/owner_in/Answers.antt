use Rattle.record.proofs.OwnerLaws.{owner-in-laws}
use Rattle.record.proofs.ownership.owner_in.Goals as goal

pub returns-in_default : goal.returns-in_default
returns-in_default c = search owner-in-laws

pub returns-then-same : goal.returns-then-same
returns-then-same c = search owner-in-laws

pub returns-then-has_slot : goal.returns-then-has_slot
returns-then-has_slot c = search owner-in-laws

pub returns-then-marked_by : goal.returns-then-marked_by
returns-then-marked_by c = search owner-in-laws

pub returns : goal.returns
returns c = search owner-in-laws
