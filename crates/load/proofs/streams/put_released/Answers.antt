use Rattle.load.proofs.StreamLaws.{released-put}
use Rattle.load.proofs.streams.put_released.Goals as goal

pub returns : goal.returns
returns c = search released-put
