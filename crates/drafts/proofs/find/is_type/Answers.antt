use native.Mathlib.Omega.{arith}
use Rattle.drafts.proofs.FindLaws.{type-in, type-out}
use Rattle.drafts.proofs.find.is_type.Goals as goal

pub returns-in-8 : goal.returns-in-8
returns-in-8 c = type-in _ (omega arith) (omega arith)

pub returns-in_default : goal.returns-in_default
returns-in_default c = type-out _ (λ e. omega arith) (λ e. omega arith)

pub returns-in_default-2 : goal.returns-in_default-2
returns-in_default-2 c = type-out _ (λ e. omega arith) (λ e. omega arith)
