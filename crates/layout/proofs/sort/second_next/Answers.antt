use Rattle.layout.proofs.SortLaws.{second-laws}
use Rattle.layout.proofs.sort.second_next.Goals as goal

pub returns-then-left-i : goal.returns-then-left-i
returns-then-left-i c = search second-laws

pub returns-then-right-j : goal.returns-then-right-j
returns-then-right-j c = search second-laws

pub returns : goal.returns
returns c = search second-laws
