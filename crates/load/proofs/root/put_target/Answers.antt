use Rattle.load.proofs.RootLaws.{target-put}
use Rattle.load.proofs.root.put_target.Goals as goal

pub returns : goal.returns
returns c = search target-put
