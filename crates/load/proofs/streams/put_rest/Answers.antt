use Rattle.load.proofs.StreamLaws.{rest_put}
use Rattle.load.proofs.streams.put_rest.Goals as goal

pub returns : goal.returns
returns c = search rest_put
