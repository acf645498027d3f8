use Rattle.record.proofs.NamedLaws.{there-laws}
use Rattle.record.proofs.named.constant_there.Goals as goal

pub returns-in_default : goal.returns-in_default
returns-in_default c = search there-laws

pub returns : goal.returns
returns c = search there-laws
