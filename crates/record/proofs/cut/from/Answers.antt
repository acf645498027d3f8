use Rattle.record.proofs.CutLaws.{cut-laws}
use Rattle.record.proofs.cut.from.Goals as goal

pub returns-then-n-at : goal.returns-then-n-at
returns-then-n-at c = search cut-laws

pub returns : goal.returns
returns c = search cut-laws
