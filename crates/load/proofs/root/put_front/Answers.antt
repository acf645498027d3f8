use Rattle.load.proofs.RootLaws.{front-put}
use Rattle.load.proofs.root.put_front.Goals as goal

pub returns : goal.returns
returns c = search front-put
