use Rattle.record.proofs.WriterLaws.{puts-as}
use Rattle.load.proofs.StreamLaws.{stop-put}
use Rattle.load.proofs.streams.put_stop.Goals as goal

pub returns : goal.returns
returns c = puts-as c.put.ensures stop-put
