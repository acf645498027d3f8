use Rattle.record.proofs.WriterLaws.{puts-as}
use Rattle.load.proofs.StreamLaws.{integer-put}
use Rattle.load.proofs.streams.put_integer.Goals as goal

pub returns : goal.returns
returns c = search (puts-as, integer-put)
