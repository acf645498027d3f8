use Rattle.record.proofs.WriterLaws.{puts-as}
use Rattle.load.proofs.PutLaws.{operand-put}
use Rattle.load.proofs.commands.put_operand.Goals as goal

pub returns : goal.returns
returns c = search (puts-as, operand-put)
