use native.Mathlib.Omega.{arith}
use Rattle.drafts.proofs.MarkedLaws.{plain-letter, wide-letter, text-letter}
use borrow.Author.Rules.{rules}
use Rattle.drafts.proofs.marking.is_plain.Goals as goal

pub returns-in-70 : goal.returns-in-70
returns-in-70 c = plain-letter _ c.in-70.is

pub returns-in-70-2 : goal.returns-in-70-2
returns-in-70-2 c = wide-letter _ (omega arith) (omega arith)

pub returns-in_default : goal.returns-in_default
returns-in_default c = text-letter _ (search rules) (λ e. omega arith) (λ e. omega arith)

pub returns-in_default-2 : goal.returns-in_default-2
returns-in_default-2 c = text-letter _ (search rules) (λ e. omega arith) (λ e. omega arith)
