use Rattle.drafts.proofs.MarkedLaws.{operand-plain, operand-text}
use Rattle.drafts.proofs.marking.mark_operand.Goals as goal

pub returns-then-is_plain : goal.returns-then-is_plain
returns-then-is_plain c = search operand-plain

pub returns : goal.returns
returns c = search operand-text
