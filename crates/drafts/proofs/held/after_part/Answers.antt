use Rattle.drafts.proofs.HeldLaws.{after_read}
use Rattle.drafts.proofs.held.after_part.Goals as goal

pub returns : goal.returns
returns c = search after_read
