use Rattle.compare.proofs.CoverTableLaws.{touched-end, touched-here, touched-on}
use Rattle.compare.proofs.cover_table.first_touched.Goals as goal

pub loop-handle-init : goal.loop-handle-init
loop-handle-init c = rw (c.into_iter-handle-iterator.ensures.into_iter_gives, c.zip-handle-items.ensures.first, c.iter.ensures.rest, c.zip-handle-items.ensures.second.0)

pub returns-then-is_under : goal.returns-then-is_under
returns-then-is_under c = touched-here _ _ _ _ _ _ c.loop-handle.invariant _ _ _ _ c.in-Some.ensures.steps _ c.is_under.ensures c.if-is_under.true

pub loop-handle-preserved : goal.loop-handle-preserved
loop-handle-preserved c = touched-on _ _ _ _ _ _ c.loop-handle.invariant _ _ _ _ c.in-Some.ensures.steps _ c.is_under.ensures c.if-is_under.false

pub returns : goal.returns
returns c = touched-end _ _ _ _ _ _ c.loop-handle.invariant c.in-None.ensures.steps
