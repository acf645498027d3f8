use Rattle.drafts.proofs.MarkedLaws.{mark-one, mark-none}
use native.Mathlib.Omega.{arith}
use Rattle.drafts.proofs.marking.counted.Goals as goal

pub returns-then-mark-eq0 : goal.returns-then-mark-eq0
returns-then-mark-eq0 c = (search mark-none, omega arith)

pub returns-else-mark-eq0 : goal.returns-else-mark-eq0
returns-else-mark-eq0 c = (search mark-one, omega arith)
