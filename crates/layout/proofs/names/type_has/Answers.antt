use mathlib.Core.Path.{sym, ◌∙◌}
use borrow.Author.Tests.{eqb-true}
use Rattle.layout.proofs.NameLaws.{has-colons, has-back, has_all}
use Rattle.layout.proofs.names.type_has.Goals as goal
use Rattle.layout.proofs.names.type_has.Goals.{then-colons-l, else-colons-l}

pub returns-then-same : goal.returns-then-same
returns-then-same c =
    elim c.if-colons-l.branch [
      | then-colons-l w ↦ has_all _ _ _ _ _ _ _ c.colons.ensures.0 w.if-colons-l.true _ _ w.back.ensures.0 w.same.ensures _ _ (cc) c.front.ensures.0 c.same-then-same.ensures
      | else-colons-l w ↦ absurd (w.if-colons-l.false (eqb-true _ _ (sym w.value-is ∙ c.if-same.true)))
    ]

pub returns-else-same : goal.returns-else-same
returns-else-same c =
    elim c.if-colons-l.branch [
      | then-colons-l w ↦ c.if-same.false ∙ has-back _ _ _ _ _ _ _ c.colons.ensures.0 w.if-colons-l.true _ _ w.back.ensures.0 w.same.ensures cc
      | else-colons-l w ↦ c.if-same.false ∙ has-colons _ _ _ _ _ _ _ c.colons.ensures.0 w.if-colons-l.false
    ]
