use Rattle.compare.proofs.ShippedLaws.{shipped-laws}
use Rattle.compare.proofs.shipped.shipped_with.Goals as goal

pub returns-in-None : goal.returns-in-None
returns-in-None c = search shipped-laws

pub returns-in-Some : goal.returns-in-Some
returns-in-Some c = search shipped-laws
