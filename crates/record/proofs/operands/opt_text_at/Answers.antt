use Rattle.record.proofs.CommandLaws.{operand-laws}
use Rattle.record.proofs.operands.opt_text_at.Goals as goal

pub returns : goal.returns
returns c = search operand-laws
