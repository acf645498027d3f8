use native.Mathlib.Omega.{arith}
use Rattle.drafts.proofs.FindLaws.{part-in, part-out}
use Rattle.drafts.proofs.find.is_part.Goals as goal

pub returns-in-10 : goal.returns-in-10
returns-in-10 c = part-in _ (omega arith) (omega arith)

pub returns-in_default : goal.returns-in_default
returns-in_default c = part-out _ (λ e. omega arith) (λ e. omega arith) (λ e. omega arith)

pub returns-in_default-2 : goal.returns-in_default-2
returns-in_default-2 c = part-out _ (λ e. omega arith) (λ e. omega arith) (λ e. omega arith)
