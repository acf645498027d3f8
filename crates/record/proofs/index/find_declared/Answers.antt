use Rattle.record.proofs.IndexLaws.{declared-laws}
use Rattle.record.proofs.index.find_declared.Goals as goal

pub returns-then-found-eq0 : goal.returns-then-found-eq0
returns-then-found-eq0 c = search declared-laws

pub returns : goal.returns
returns c = search declared-laws
