use Rattle.load.proofs.RootLaws.{retyped-put}
use Rattle.load.proofs.root.put_retyped.Goals as goal

pub returns : goal.returns
returns c = search retyped-put
