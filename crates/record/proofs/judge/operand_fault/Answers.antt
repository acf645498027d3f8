use Rattle.record.proofs.JudgeLaws.{flag-there, number-there, text-there, operand-fault-laws}
use Rattle.record.proofs.judge.operand_fault.Goals as goal

pub bounds-s-at : goal.bounds-s-at
bounds-s-at c = search flag-there

pub bounds-s-at-in-78 : goal.bounds-s-at-in-78
bounds-s-at-in-78 c = search number-there

pub whole_text-requires : goal.whole_text-requires
whole_text-requires c = search text-there

pub returns-in-70 : goal.returns-in-70
returns-in-70 c = search operand-fault-laws

pub returns-in-78 : goal.returns-in-78
returns-in-78 c = search operand-fault-laws

pub returns-in-87 : goal.returns-in-87
returns-in-87 c = search operand-fault-laws

pub returns-in-86 : goal.returns-in-86
returns-in-86 c = search operand-fault-laws

pub returns-in_default : goal.returns-in_default
returns-in_default c = search operand-fault-laws
