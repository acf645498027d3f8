use Rattle.record.proofs.SeekLaws.{sought-nearer}
use Rattle.layout.proofs.HandleLaws.{fill_start, fill-count, fill_end, fill-laws, place-room, sought-small, places-end, places-here, places-fit, places-few}
use Rattle.layout.proofs.handles.fill_places.Goals as goal

pub loop-place-init : goal.loop-place-init
loop-place-init c = search (fill_start, places-fit)

pub returns : goal.returns
returns c = (search (fill-count, places-end), search (fill_end, places-end), search (places-few, places-end))

pub narrow-requires : goal.narrow-requires
narrow-requires c = search sought-small

pub bounds-out-n : goal.bounds-out-n
bounds-out-n c = search place-room

pub loop-place-smaller : goal.loop-place-smaller
loop-place-smaller c = search sought-nearer

pub loop-place-preserved : goal.loop-place-preserved
loop-place-preserved c = search (fill-laws, places-here)
