use Rattle.record.proofs.WriterLaws.{puts_then}
use Rattle.load.proofs.streams.put_start.Goals as goal

pub returns : goal.returns
returns c = search puts_then
