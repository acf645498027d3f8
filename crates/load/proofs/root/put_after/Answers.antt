use Rattle.load.proofs.RootLaws.{after-put}
use Rattle.load.proofs.root.put_after.Goals as goal

pub returns : goal.returns
returns c = search after-put
