use Rattle.drafts.proofs.CallLaws.{set-built}
use Rattle.drafts.proofs.shelf.shelf_set.Goals as goal

pub returns : goal.returns
returns c = search set-built
