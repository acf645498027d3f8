use Rattle.load.proofs.RootLaws.{edited-put}
use Rattle.load.proofs.root.put_edited.Goals as goal

pub returns : goal.returns
returns c = search edited-put
