use Rattle.drafts.proofs.PackLaws.{chosen-put}
use Rattle.drafts.proofs.pack.put_chosen.Goals as goal

pub returns : goal.returns
returns c = search chosen-put
