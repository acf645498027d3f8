use Rattle.compare.proofs.ConstantLaws.{integer-put}
use Rattle.compare.proofs.constants.integer_reads.Goals as goal

pub returns : goal.returns
returns c = search integer-put
