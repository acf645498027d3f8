use Rattle.compare.proofs.CoverTableLaws.{uncovered-end, uncovered-here, uncovered-on}
use Rattle.compare.proofs.cover_table.check_covered.Goals as goal

pub loop-handle-init : goal.loop-handle-init
loop-handle-init c = rw (c.into_iter-handle-iterator.ensures.into_iter_gives, c.zip-handle-items.ensures.first, c.iter.ensures.rest, c.zip-handle-items.ensures.second.0)

pub returns-then-entry-eq1 : goal.returns-then-entry-eq1
returns-then-entry-eq1 c = uncovered-here _ _ _ _ _ c.loop-handle.invariant _ _ _ _ c.in-Some.ensures.steps _ c.if-entry-eq1.true c.type_name-name.ensures

pub loop-handle-preserved : goal.loop-handle-preserved
loop-handle-preserved c = uncovered-on _ _ _ _ _ c.loop-handle.invariant _ _ _ _ c.in-Some.ensures.steps c.if-entry-eq1.false

pub returns : goal.returns
returns c = uncovered-end _ _ _ _ _ c.loop-handle.invariant c.in-None.ensures.steps
