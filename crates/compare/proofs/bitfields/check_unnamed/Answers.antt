use Rattle.compare.proofs.BitfieldLaws.{unnamed-laws}
use Rattle.compare.proofs.bitfields.check_unnamed.Goals as goal

pub returns-in_default : goal.returns-in_default
returns-in_default c = search unnamed-laws

pub returns : goal.returns
returns c = search unnamed-laws
