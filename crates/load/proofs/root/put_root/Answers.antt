use Rattle.load.proofs.RootLaws.{root-put}
use Rattle.load.proofs.root.put_root.Goals as goal

pub returns : goal.returns
returns c = search root-put
