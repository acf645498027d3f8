use Rattle.load.proofs.RootLaws.{inserted-put}
use Rattle.load.proofs.root.put_inserted.Goals as goal

pub returns : goal.returns
returns c = search inserted-put
