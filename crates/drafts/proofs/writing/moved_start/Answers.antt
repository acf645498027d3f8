use Rattle.drafts.proofs.PutLaws.{start-given}
use Rattle.drafts.proofs.writing.moved_start.Goals as goal

pub returns : goal.returns
returns c = search start-given
