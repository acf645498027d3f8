use Rattle.load.proofs.RootLaws.{scalar-put}
use Rattle.load.proofs.root.put_scalar.Goals as goal

pub returns : goal.returns
returns c = search scalar-put
