use Rattle.drafts.proofs.HeldLaws.{part-read}
use Rattle.drafts.proofs.held.part.Goals as goal

pub returns : goal.returns
returns c = search part-read
