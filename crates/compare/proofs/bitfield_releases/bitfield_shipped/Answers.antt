use Rattle.compare.proofs.BitfieldReleaseLaws.{bitfield-shipped-laws}
use Rattle.compare.proofs.bitfield_releases.bitfield_shipped.Goals as goal

pub returns-in_default : goal.returns-in_default
returns-in_default c = search bitfield-shipped-laws

pub returns : goal.returns
returns c = search bitfield-shipped-laws
