use Rattle.record.proofs.SeekLaws.{after-nearer}
use Rattle.layout.proofs.HandleLaws.{fill_start, fill-count, fill_end, fill-laws, room-laws, place-small, open-stop, open-laws}
use borrow.Author.Rules.{rules}
use Rattle.layout.proofs.handles.fill_families.Goals as goal

pub loop-from-init : goal.loop-from-init
loop-from-init c = (search fill_start, search rules)

pub returns-then-after-eq0 : goal.returns-then-after-eq0
returns-then-after-eq0 c = (search (fill-count, open-stop), search (fill_end, open-stop))

pub narrow-place-requires : goal.narrow-place-requires
narrow-place-requires c = search place-small

pub bounds-out-n : goal.bounds-out-n
bounds-out-n c = search room-laws

pub loop-from-smaller-then-byte-eq9 : goal.loop-from-smaller-then-byte-eq9
loop-from-smaller-then-byte-eq9 c = search after-nearer

pub loop-from-preserved-then-byte-eq9 : goal.loop-from-preserved-then-byte-eq9
loop-from-preserved-then-byte-eq9 c = (search (fill-laws, open-laws), search rules)

pub loop-from-smaller-then-family-eq0 : goal.loop-from-smaller-then-family-eq0
loop-from-smaller-then-family-eq0 c = search after-nearer

pub loop-from-preserved-then-family-eq0 : goal.loop-from-preserved-then-family-eq0
loop-from-preserved-then-family-eq0 c = (search (fill-laws, open-laws), search rules)

pub narrow-requires : goal.narrow-requires
narrow-requires c = search place-small

pub bounds-out-n-else-family-eq0 : goal.bounds-out-n-else-family-eq0
bounds-out-n-else-family-eq0 c = search room-laws

pub loop-from-smaller-else-family-eq0 : goal.loop-from-smaller-else-family-eq0
loop-from-smaller-else-family-eq0 c = search after-nearer

pub loop-from-preserved-else-family-eq0 : goal.loop-from-preserved-else-family-eq0
loop-from-preserved-else-family-eq0 c = (search (fill-laws, open-laws), search rules)

pub loop-from-smaller-then-passes : goal.loop-from-smaller-then-passes
loop-from-smaller-then-passes c = search after-nearer

pub loop-from-preserved-then-passes : goal.loop-from-preserved-then-passes
loop-from-preserved-then-passes c = (search (fill-laws, open-laws), search rules)

pub loop-from-smaller : goal.loop-from-smaller
loop-from-smaller c = search after-nearer

pub loop-from-preserved : goal.loop-from-preserved
loop-from-preserved c = (search (fill-laws, open-laws), search rules)
