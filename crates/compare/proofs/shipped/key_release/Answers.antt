use Rattle.compare.proofs.ShippedLaws.{key_laws}
use Rattle.compare.proofs.shipped.key_release.Goals as goal

pub returns-in-Some : goal.returns-in-Some
returns-in-Some c = search key_laws

pub returns : goal.returns
returns c = search key_laws
