use mathlib.Core.Bool.{false≢true}
use Rattle.compare.proofs.KeptLaws.{first-there}
use Rattle.compare.proofs.kept.leads.Goals as goal

pub returns-in_default : goal.returns-in_default
returns-in_default c = λ t. absurd (false≢true t)

pub returns-then-k-at : goal.returns-then-k-at
returns-then-k-at c = λ t. absurd (false≢true t)

pub returns : goal.returns
returns c = λ t. search first-there
