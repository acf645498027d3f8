use Rattle.record.proofs.OwnerLaws.{answered-lent}
use Rattle.record.proofs.ownership.owner_lent.Goals as goal

pub returns : goal.returns
returns c = search answered-lent
