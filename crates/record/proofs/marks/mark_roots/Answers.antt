use Rattle.record.proofs.RootLaws.{roots-marked}
use Rattle.record.proofs.marks.mark_roots.Goals as goal

pub returns : goal.returns
returns c = search roots-marked
