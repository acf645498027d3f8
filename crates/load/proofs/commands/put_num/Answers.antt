use Rattle.record.proofs.WriterLaws.{puts-as}
use Rattle.load.proofs.PutLaws.{num-none, num-put}
use Rattle.load.proofs.commands.put_num.Goals as goal

pub returns-in_default : goal.returns-in_default
returns-in_default c = search (puts-as, num-none)

pub returns : goal.returns
returns c = search (puts-as, num-put)
