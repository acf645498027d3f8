use Rattle.load.proofs.RootLaws.{added-put}
use Rattle.load.proofs.root.put_added.Goals as goal

pub returns : goal.returns
returns c = search added-put
