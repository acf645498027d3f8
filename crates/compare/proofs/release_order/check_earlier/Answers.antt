use Rattle.compare.proofs.ReleaseOrderLaws.{earlier-laws}
use Rattle.compare.proofs.release_order.check_earlier.Goals as goal

pub returns-in_default : goal.returns-in_default
returns-in_default c = search earlier-laws

pub returns-then-earlier : goal.returns-then-earlier
returns-then-earlier c = search earlier-laws

pub returns : goal.returns
returns c = search earlier-laws
