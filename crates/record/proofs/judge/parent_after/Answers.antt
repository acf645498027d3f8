use Rattle.record.proofs.JudgeLaws.{parent-laws}
use Rattle.record.proofs.judge.parent_after.Goals as goal

pub returns-in-8 : goal.returns-in-8
returns-in-8 c = search parent-laws

pub returns-in-9 : goal.returns-in-9
returns-in-9 c = search parent-laws

pub returns-in-10 : goal.returns-in-10
returns-in-10 c = search parent-laws

pub returns-in-11 : goal.returns-in-11
returns-in-11 c = search parent-laws

pub returns-in-12 : goal.returns-in-12
returns-in-12 c = search parent-laws

pub returns-in_default : goal.returns-in_default
returns-in_default c = search parent-laws
