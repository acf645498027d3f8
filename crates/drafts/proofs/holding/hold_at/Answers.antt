use Rattle.drafts.proofs.HoldLaws.{hold-put}
use Rattle.drafts.proofs.holding.hold_at.Goals as goal

pub returns : goal.returns
returns c = search hold-put
