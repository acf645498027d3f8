use Rattle.drafts.proofs.PackLaws.{chosen-marked}
use Rattle.drafts.proofs.pack.mark_chosen.Goals as goal

pub returns : goal.returns
returns c = search chosen-marked
