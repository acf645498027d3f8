use Rattle.compare.proofs.ShippedLaws.{constant-release-laws}
use Rattle.compare.proofs.shipped.constant_release.Goals as goal

pub returns-in_default : goal.returns-in_default
returns-in_default c = search constant-release-laws

pub returns : goal.returns
returns c = search constant-release-laws
