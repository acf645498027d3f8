use Rattle.load.proofs.StreamLaws.{current-put}
use Rattle.load.proofs.streams.put_current.Goals as goal

pub returns : goal.returns
returns c = search current-put
