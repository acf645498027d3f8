use Rattle.compare.proofs.BitfieldLaws.{member-laws}
use Rattle.compare.proofs.bitfields.check_member.Goals as goal

pub returns-in_default : goal.returns-in_default
returns-in_default c = search member-laws

pub returns-then-m-was : goal.returns-then-m-was
returns-then-m-was c = search member-laws

pub returns-then-wide_now-wide : goal.returns-then-wide_now-wide
returns-then-wide_now-wide c = search member-laws

pub returns : goal.returns
returns c = search member-laws
