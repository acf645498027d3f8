use native.Mathlib.Omega.{arith}
use Rattle.verdicts.proofs.TemplateLaws.{pick-itself, pick-arg, pick-none}
use Rattle.verdicts.proofs.template.pick.Goals as goal

pub returns-then-b-ge32 : goal.returns-then-b-ge32
returns-then-b-ge32 c = pick-itself _ _ c.if-b-ge32.true

pub returns-then-b-ge5 : goal.returns-then-b-ge5
returns-then-b-ge5 c = pick-none _ _ (omega arith) (omega arith)

pub returns : goal.returns
returns c = pick-arg _ _ (omega arith)
