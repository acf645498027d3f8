use Rattle.record.proofs.SeekLaws.{after-nearer}
use Rattle.layout.proofs.HandleLaws.{fill_start, fill-count, fill_end, fill-laws, taken-room, place-small, places-stop, place-laws, places-fit, families-fit, begun-start, begun-end, begun-laws}
use Rattle.layout.proofs.handles.fill_structs.Goals as goal

pub loop-at-init : goal.loop-at-init
loop-at-init c = (search (fill_start, places-fit), search begun-start)

pub returns-then-after-eq0 : goal.returns-then-after-eq0
returns-then-after-eq0 c = (search (fill-count, places-stop), search (fill_end, places-stop), search (families-fit, fill-count, places-stop, begun-end), search begun-end)

pub narrow-requires : goal.narrow-requires
narrow-requires c = search place-small

pub bounds-out-n : goal.bounds-out-n
bounds-out-n c = search taken-room

pub loop-at-smaller-then-byte-eq8 : goal.loop-at-smaller-then-byte-eq8
loop-at-smaller-then-byte-eq8 c = search after-nearer

pub loop-at-preserved-then-byte-eq8 : goal.loop-at-preserved-then-byte-eq8
loop-at-preserved-then-byte-eq8 c = (search (fill-laws, place-laws), search begun-laws)

pub loop-at-smaller-then-family-stream : goal.loop-at-smaller-then-family-stream
loop-at-smaller-then-family-stream c = search after-nearer

pub loop-at-preserved-then-family-stream : goal.loop-at-preserved-then-family-stream
loop-at-preserved-then-family-stream c = (search (fill-laws, place-laws), search begun-laws)

pub loop-at-smaller-else-family-stream : goal.loop-at-smaller-else-family-stream
loop-at-smaller-else-family-stream c = search after-nearer

pub loop-at-preserved-else-family-stream : goal.loop-at-preserved-else-family-stream
loop-at-preserved-else-family-stream c = (search (fill-laws, place-laws), search begun-laws)

pub loop-at-smaller : goal.loop-at-smaller
loop-at-smaller c = search after-nearer

pub loop-at-preserved : goal.loop-at-preserved
loop-at-preserved c = (search (fill-laws, place-laws), search begun-laws)
