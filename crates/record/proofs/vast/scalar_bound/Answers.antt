use Rattle.std.proofs.Common.{rules, arith, refl, sym, ap, ◌∙◌}
use Rattle.record.specs.Shapes.{capped}
use Rattle.record.proofs.BoundLaws.{cap-twice, words-begin, words-next, words-over, words-end}
use Rattle.record.proofs.vast.scalar_bound.Goals as goal

pub loop-row-init : goal.loop-row-init
unfolding capped
loop-row-init c = (search rules, tt, search rules, refl, words-begin _ _ (search rules))

pub loop-row-preserved : goal.loop-row-preserved
loop-row-preserved c =
    let h = c.in-Some.ensures.steps in
    let i = c.loop-row.invariant in (
      search rules,
      tt,
      search rules,
      c.sum-total.ensures ∙ sym (cap-twice _) ∙ ap capped (sym c.sum-total.ensures),
      words-next _ _ _ _ _ _ h.1.0 (h.1.1 ∙ i.2) c.from.ensures c.sum-total.ensures ∙ i.4,
    )

pub returns-then-total-gt-LIMIT : goal.returns-then-total-gt-LIMIT
returns-then-total-gt-LIMIT c =
    let h = c.in-Some.ensures.steps in
    let i = c.loop-row.invariant in
    words-over _ _ _ _ _ _ _ h.1.0 (h.1.1 ∙ i.2) c.from.ensures c.sum-total.ensures i.4 c.if-total-gt-LIMIT.true

pub returns : goal.returns
returns c =
    let h = c.in-None.ensures.steps in
    let i = c.loop-row.invariant in
    words-end _ _ (omega (arith, h.1.0, i.2)) i.3 ∙ i.4
