use Rattle.compare.proofs.BitfieldReleaseLaws.{arrived-laws}
use Rattle.compare.proofs.bitfield_releases.check_arrived.Goals as goal

pub returns-then-same : goal.returns-then-same
returns-then-same c = search arrived-laws

pub returns-then-same-2 : goal.returns-then-same-2
returns-then-same-2 c = search arrived-laws

pub returns-else-same : goal.returns-else-same
returns-else-same c = search arrived-laws

pub returns-else-same-2 : goal.returns-else-same-2
returns-else-same-2 c = search arrived-laws

pub returns-in-Unstated : goal.returns-in-Unstated
returns-in-Unstated c = search arrived-laws
