use Rattle.drafts.proofs.CallLaws.{back-built}
use Rattle.drafts.proofs.shelf.shelf_back.Goals as goal

pub returns : goal.returns
returns c = search back-built
