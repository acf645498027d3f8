use mathlib.Core.Path.{◌∙◌}
use Rattle.drafts.proofs.JudgingLaws.{add-head, add-type, add-part, add-end}
use Rattle.drafts.proofs.judging.may_add.Goals as goal

pub returns-then-last-eq0 : goal.returns-then-last-eq0
returns-then-last-eq0 c = search add-head

pub returns-then-last-eq1 : goal.returns-then-last-eq1
returns-then-last-eq1 c = search add-type

pub returns-then-is_part : goal.returns-then-is_part
returns-then-is_part c = c.if-is_part.true ∙ search add-part

pub returns-else-is_part : goal.returns-else-is_part
returns-else-is_part c = search add-end
