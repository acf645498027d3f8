use Rattle.std.proofs.Common.{◌∙◌}
use Rattle.record.proofs.WordLaws.{front_order, before_cmp}
use Rattle.record.proofs.words.text_before.Goals as goal

pub returns-then-x-y : goal.returns-then-x-y
returns-then-x-y c = c.is_lt.ensures ∙ before_cmp _ _ _ c.cmp.ensures

pub returns-else-x-y : goal.returns-else-x-y
returns-else-x-y c = search front_order
