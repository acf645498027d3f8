use Rattle.record.proofs.CutLaws.{cut-laws}
use Rattle.record.proofs.cut.upto.Goals as goal

pub returns-then-s-end : goal.returns-then-s-end
returns-then-s-end c = search cut-laws

pub returns : goal.returns
returns c = search cut-laws
