use Rattle.compare.proofs.ShippedLaws.{enum-release-laws}
use Rattle.compare.proofs.shipped.enum_release.Goals as goal

pub returns-in_default : goal.returns-in_default
returns-in_default c = search enum-release-laws

pub returns : goal.returns
returns c = search enum-release-laws
