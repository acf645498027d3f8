use Rattle.record.specs.Operands.{flag_at}
use Rattle.record.proofs.operands.flag_at.Goals as goal

pub returns : goal.returns
unfolding flag_at
returns c = cc
