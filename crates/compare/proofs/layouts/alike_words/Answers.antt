use mathlib.Core.Bool.{false≢true}
use Rattle.compare.proofs.LayoutLaws.{words-laws}
use Rattle.compare.proofs.layouts.alike_words.Goals as goal

pub returns-in_default-b : goal.returns-in_default-b
returns-in_default-b c = λ t. search words-laws

pub returns-in_default : goal.returns-in_default
returns-in_default c = λ t. absurd (false≢true t)

pub returns-in_default-b-2 : goal.returns-in_default-b-2
returns-in_default-b-2 c = λ t. absurd (false≢true t)

pub returns : goal.returns
returns c = λ t. search words-laws
