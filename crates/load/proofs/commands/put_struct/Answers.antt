use Rattle.record.proofs.WriterLaws.{puts-as}
use Rattle.load.proofs.PutLaws.{struct-put}
use Rattle.load.proofs.commands.put_struct.Goals as goal

pub returns : goal.returns
returns c = search (puts-as, struct-put)
