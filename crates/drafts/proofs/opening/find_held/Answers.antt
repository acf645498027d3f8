use Rattle.drafts.proofs.OpeningLaws.{cut-found}
use Rattle.drafts.proofs.opening.find_held.Goals as goal

pub returns : goal.returns
returns c = search cut-found
