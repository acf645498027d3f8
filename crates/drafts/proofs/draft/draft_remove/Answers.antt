use Rattle.drafts.proofs.SettleLaws.{edit-built}
use Rattle.drafts.proofs.draft.draft_remove.Goals as goal

pub returns : goal.returns
returns c = search edit-built
