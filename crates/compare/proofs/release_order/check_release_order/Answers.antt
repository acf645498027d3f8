use Rattle.compare.proofs.ReleaseOrderLaws.{release-order-laws}
use Rattle.compare.proofs.release_order.check_release_order.Goals as goal

pub returns-in_default : goal.returns-in_default
returns-in_default c = search release-order-laws

pub returns-in-Some-copy : goal.returns-in-Some-copy
returns-in-Some-copy c = search release-order-laws

pub returns-then-earlier : goal.returns-then-earlier
returns-then-earlier c = search release-order-laws

pub returns : goal.returns
returns c = search release-order-laws
