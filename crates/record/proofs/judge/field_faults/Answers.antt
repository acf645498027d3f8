use Rattle.record.specs.Base.{bytes}
use Rattle.record.specs.Commands.{wide}
use Rattle.record.proofs.JudgeLaws.{operand-then}
use borrow.Author.Rules.{rules}
use Rattle.record.proofs.judge.field_faults.Goals as goal

pub operand_fault-requires : goal.operand_fault-requires
unfolding wide
operand_fault-requires c = search rules

pub operand_fault-requires-2 : goal.operand_fault-requires-2
unfolding wide
operand_fault-requires-2 c = search rules

pub operand_fault-requires-3 : goal.operand_fault-requires-3
unfolding wide
operand_fault-requires-3 c = search rules

pub operand_fault-requires-4 : goal.operand_fault-requires-4
unfolding wide
operand_fault-requires-4 c = search rules

pub returns : goal.returns
unfolding bytes wide
returns c = operand-then _ _ _ _ _ _ _ _ _ c.operand_fault.ensures (operand-then _ _ _ _ _ _ _ _ _ c.operand_fault-2.ensures (operand-then _ _ _ _ _ _ _ _ _ c.operand_fault-3.ensures (operand-then _ _ _ _ _ _ _ _ _ c.operand_fault-4.ensures c.number_faults.ensures c.worse.ensures) c.worse-2.ensures) c.worse-3.ensures) c.worse-4.ensures
