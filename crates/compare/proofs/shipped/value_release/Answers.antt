use Rattle.compare.proofs.ShippedLaws.{value-release-laws}
use Rattle.compare.proofs.shipped.value_release.Goals as goal

pub returns-in_default : goal.returns-in_default
returns-in_default c = search value-release-laws

pub returns-in_default-find : goal.returns-in_default-find
returns-in_default-find c = search value-release-laws

pub returns : goal.returns
returns c = search value-release-laws
