use Rattle.record.proofs.ListingLaws.{step-over, step-next}
use Rattle.record.proofs.lists.next.Goals as goal

pub returns-in_default : goal.returns-in_default
returns-in_default g c = search step-over

pub returns : goal.returns
returns g c = search step-next
