use Rattle.record.proofs.CommandLaws.{operand-laws}
use Rattle.record.proofs.operands.whole_text.Goals as goal

pub returns : goal.returns
returns c = search operand-laws
