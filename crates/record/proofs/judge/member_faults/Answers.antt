use Rattle.record.specs.Base.{bytes}
use Rattle.record.specs.Commands.{wide}
use Rattle.record.proofs.JudgeLaws.{operand-then, operand-alone, skip-four}
use borrow.Author.Rules.{rules}
use Rattle.record.proofs.judge.member_faults.Goals as goal

pub operand_fault-requires : goal.operand_fault-requires
unfolding wide
operand_fault-requires c = search rules

pub operand_fault-requires-2 : goal.operand_fault-requires-2
unfolding wide
operand_fault-requires-2 c = search rules

pub operand_fault-requires-3 : goal.operand_fault-requires-3
unfolding wide
operand_fault-requires-3 c = search rules

pub returns : goal.returns
unfolding bytes wide
returns c = operand-then _ _ _ _ _ _ _ _ _ c.operand_fault.ensures (skip-four _ _ _ _ _ _ (operand-then _ _ _ _ _ _ _ _ _ c.operand_fault-2.ensures (operand-alone _ _ _ _ _ _ c.operand_fault-3.ensures) c.worse.ensures)) c.worse-2.ensures
