use Rattle.compare.proofs.BitfieldLaws.{bitfield-laws}
use Rattle.compare.proofs.bitfields.check_bitfield.Goals as goal

pub returns-in_default : goal.returns-in_default
returns-in_default c = search bitfield-laws

pub returns : goal.returns
returns c = search bitfield-laws
