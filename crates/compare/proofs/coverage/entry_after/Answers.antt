use Rattle.compare.proofs.CoverageLaws.{after-laws}
use Rattle.compare.proofs.CoverageLaws.{after-laws}
use Rattle.compare.proofs.coverage.entry_after.Goals as goal

pub returns-in_default : goal.returns-in_default
returns-in_default c = λ o k. search after-laws

pub returns-then-same_owning : goal.returns-then-same_owning
returns-then-same_owning c = λ o k. search after-laws

pub returns : goal.returns
returns c = λ o k. search after-laws
