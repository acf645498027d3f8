use Rattle.std.proofs.Common.{rules, arith, sym, ◌∙◌}
use Rattle.record.proofs.ScalarLaws.{prim-here, prim-later, prim-end}
use Rattle.record.proofs.scalars.prim_size.Goals as goal

pub returns-then-row_is : goal.returns-then-row_is
returns-then-row_is c =
    let h = c.in-Some.ensures.steps in
    let i = c.loop-row.invariant in
    sym (i.3 ∙ prim-here _ _ _ _ h.1.0 (h.1.1 ∙ i.2) _ _ c.row_is.ensures c.if-row_is.true c.from.ensures)

pub loop-row-preserved : goal.loop-row-preserved
loop-row-preserved c =
    let h = c.in-Some.ensures.steps in
    let i = c.loop-row.invariant in
    (search rules, tt, search rules, i.3 ∙ prim-later _ _ _ _ h.1.0 (h.1.1 ∙ i.2) _ c.row_is.ensures c.if-row_is.false)

pub returns : goal.returns
returns c =
    let h = c.in-None.ensures.steps in
    let i = c.loop-row.invariant in
    sym (i.3 ∙ prim-end _ _ (omega (arith, h.1.0, i.2)))
