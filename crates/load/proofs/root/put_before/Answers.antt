use Rattle.load.proofs.RootLaws.{before-put}
use Rattle.load.proofs.root.put_before.Goals as goal

pub returns : goal.returns
returns c = search before-put
