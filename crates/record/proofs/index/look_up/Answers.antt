use Rattle.record.proofs.IndexLaws.{looked-laws}
use Rattle.record.proofs.index.look_up.Goals as goal

pub returns-then-index-eq0 : goal.returns-then-index-eq0
returns-then-index-eq0 c = search looked-laws

pub returns : goal.returns
returns c = search looked-laws
