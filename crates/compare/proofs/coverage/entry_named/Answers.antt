use Rattle.compare.proofs.CoverageLaws.{named-laws}
use Rattle.compare.proofs.coverage.entry_named.Goals as goal

pub returns-then-stands_alone : goal.returns-then-stands_alone
returns-then-stands_alone c = λ o. search named-laws

pub returns-in_default : goal.returns-in_default
returns-in_default c = λ o. search named-laws

pub returns : goal.returns
returns c = λ o. search named-laws
