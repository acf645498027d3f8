use Rattle.load.proofs.RootLaws.{all-put}
use Rattle.load.proofs.root.put_all.Goals as goal

pub returns : goal.returns
returns c = search all-put
