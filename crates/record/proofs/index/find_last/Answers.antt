use Rattle.record.proofs.IndexLaws.{last-laws}
use Rattle.record.proofs.index.find_last.Goals as goal

pub returns-then-found-eq0 : goal.returns-then-found-eq0
returns-then-found-eq0 c = search last-laws

pub returns : goal.returns
returns c = search last-laws
