use Rattle.drafts.proofs.ChangedLaws.{there-none, there-some}
use Rattle.drafts.proofs.changes.is_there.Goals as goal

pub returns-in-Some : goal.returns-in-Some
returns-in-Some c = search there-some

pub returns-in_default : goal.returns-in_default
returns-in_default c = search there-none
