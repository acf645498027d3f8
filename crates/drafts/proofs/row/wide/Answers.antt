use Rattle.drafts.proofs.RowAnswers.{text-wide}
use Rattle.record.specs.Commands.{wide}
use native.Mathlib.Omega.{arith}
use Rattle.drafts.proofs.row.wide.Goals as goal

pub returns-in-70 : goal.returns-in-70
unfolding wide
returns-in-70 c = (rw c.in-70.is, omega arith)

pub returns-in-87 : goal.returns-in-87
unfolding wide
returns-in-87 c = (rw c.in-87.is, omega arith)

pub returns-in-86 : goal.returns-in-86
unfolding wide
returns-in-86 c = (rw c.in-86.is, omega arith)

pub returns-in-78 : goal.returns-in-78
unfolding wide
returns-in-78 c = (rw c.in-78.is, omega arith)

pub returns-in_default : goal.returns-in_default
returns-in_default c = (search text-wide, omega arith)
