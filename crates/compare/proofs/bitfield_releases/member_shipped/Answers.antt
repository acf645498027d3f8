use Rattle.compare.proofs.BitfieldReleaseLaws.{member-shipped-laws}
use Rattle.compare.proofs.bitfield_releases.member_shipped.Goals as goal

pub returns-in_default : goal.returns-in_default
returns-in_default c = search member-shipped-laws

pub returns-in_default-find : goal.returns-in_default-find
returns-in_default-find c = search member-shipped-laws

pub returns : goal.returns
returns c = search member-shipped-laws
