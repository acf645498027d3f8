use mathlib.Core.Path.{sym, ◌∙◌}
use mathlib.Core.Bool.{false≢true}
use Rattle.compare.proofs.LayoutLaws.{bare-both}
use Rattle.compare.proofs.layouts.both_bare.Goals as goal

pub returns-then-is_bare : goal.returns-then-is_bare
returns-then-is_bare c = λ t. bare-both _ _ _ _ _ _ c.is_bare.ensures c.if-is_bare.true c.is_bare-then-is_bare.ensures t

pub returns-else-is_bare : goal.returns-else-is_bare
returns-else-is_bare c = λ t. absurd (false≢true (sym c.if-is_bare.false ∙ t))
