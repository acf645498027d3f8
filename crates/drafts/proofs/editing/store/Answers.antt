use Rattle.drafts.proofs.SettleLaws.{store-over, store_in}
use Rattle.drafts.proofs.editing.store.Goals as goal

pub returns-then-draft-need : goal.returns-then-draft-need
returns-then-draft-need c = search store-over

pub returns : goal.returns
returns c = search store_in
