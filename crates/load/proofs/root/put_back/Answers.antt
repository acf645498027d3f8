use Rattle.load.proofs.RootLaws.{back-put}
use Rattle.load.proofs.root.put_back.Goals as goal

pub returns : goal.returns
returns c = search back-put
