use Rattle.record.proofs.SeekLaws.{after-nearer}
use Rattle.record.proofs.EndLaws.{noting-on, noting-place, noting-entry, noting-laws}
use borrow.Author.Rules.{rules}
use Rattle.record.proofs.ends.index_with_ends.Goals as goal

pub loop-ends-init : goal.loop-ends-init
loop-ends-init c = search noting-laws

pub returns-then-after-eq0 : goal.returns-then-after-eq0
returns-then-after-eq0 c = search noting-laws

pub put_declared-requires : goal.put_declared-requires
put_declared-requires c = (search noting-place, search noting-entry)

pub loop-ends-smaller : goal.loop-ends-smaller
loop-ends-smaller c = search after-nearer

pub loop-ends-preserved : goal.loop-ends-preserved
loop-ends-preserved c =
    noting-on _ _ _ _ _ _ _ c.loop-ends.invariant c.after_at-after.ensures (search rules) (search rules) _
    c.put_declared.ensures _ c.byte_at.ensures _ c.noted-ends.ensures
