use Rattle.record.proofs.DescribeLaws.{named-laws}
use Rattle.record.proofs.describe.named_at.Goals as goal

pub returns-in-Some : goal.returns-in-Some
returns-in-Some c = λ p. search named-laws

pub returns-in-Some-opt_text_at : goal.returns-in-Some-opt_text_at
returns-in-Some-opt_text_at c = λ p. search named-laws

pub returns : goal.returns
returns c = λ p. search named-laws
