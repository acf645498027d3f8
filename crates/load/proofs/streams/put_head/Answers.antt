use Rattle.record.proofs.WriterLaws.{puts-as}
use Rattle.load.proofs.StreamLaws.{head-put}
use Rattle.load.proofs.streams.put_head.Goals as goal

pub returns : goal.returns
returns c = search (puts-as, head-put)
