use Rattle.record.proofs.CommandLaws.{operand-laws}
use Rattle.record.proofs.operands.text_at.Goals as goal

pub returns-else-s-at-ge3 : goal.returns-else-s-at-ge3
returns-else-s-at-ge3 c = search operand-laws

pub returns-else-at-s : goal.returns-else-at-s
returns-else-at-s c = search operand-laws
