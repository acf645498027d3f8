use Rattle.load.proofs.PutLaws.{puts-nums}
use Rattle.load.proofs.commands.put_nums.Goals as goal

pub returns : goal.returns
returns c = search puts-nums
