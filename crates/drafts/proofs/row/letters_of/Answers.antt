use Rattle.drafts.proofs.RowAnswers.{none-letters}
use Rattle.drafts.specs.Code.{or_none}
use Rattle.record.specs.Commands.{operands}
use Rattle.record.specs.Base.{bytes}
use native.Mathlib.Omega.{arith}
use Rattle.drafts.proofs.row.letters_of.Goals as goal

pub returns-in-1 : goal.returns-in-1
unfolding operands or_none bytes
returns-in-1 c = (rw c.in-1.is, omega arith)

pub returns-in-2 : goal.returns-in-2
unfolding operands or_none bytes
returns-in-2 c = (rw c.in-2.is, omega arith)

pub returns-in-3 : goal.returns-in-3
unfolding operands or_none bytes
returns-in-3 c = (rw c.in-3.is, omega arith)

pub returns-in-4 : goal.returns-in-4
unfolding operands or_none bytes
returns-in-4 c = (rw c.in-4.is, omega arith)

pub returns-in-5 : goal.returns-in-5
unfolding operands or_none bytes
returns-in-5 c = (rw c.in-5.is, omega arith)

pub returns-in-6 : goal.returns-in-6
unfolding operands or_none bytes
returns-in-6 c = (rw c.in-6.is, omega arith)

pub returns-in-7 : goal.returns-in-7
unfolding operands or_none bytes
returns-in-7 c = (rw c.in-7.is, omega arith)

pub returns-in-8 : goal.returns-in-8
unfolding operands or_none bytes
returns-in-8 c = (rw c.in-8.is, omega arith)

pub returns-in-9 : goal.returns-in-9
unfolding operands or_none bytes
returns-in-9 c = (rw c.in-9.is, omega arith)

pub returns-in-10 : goal.returns-in-10
unfolding operands or_none bytes
returns-in-10 c = (rw c.in-10.is, omega arith)

pub returns-in-11 : goal.returns-in-11
unfolding operands or_none bytes
returns-in-11 c = (rw c.in-11.is, omega arith)

pub returns-in-12 : goal.returns-in-12
unfolding operands or_none bytes
returns-in-12 c = (rw c.in-12.is, omega arith)

pub returns-in-13 : goal.returns-in-13
unfolding operands or_none bytes
returns-in-13 c = (rw c.in-13.is, omega arith)

pub returns-in-14 : goal.returns-in-14
unfolding operands or_none bytes
returns-in-14 c = (rw c.in-14.is, omega arith)

pub returns-in-15 : goal.returns-in-15
unfolding operands or_none bytes
returns-in-15 c = (rw c.in-15.is, omega arith)

pub returns-in_default : goal.returns-in_default
returns-in_default c = (search none-letters, omega arith)
