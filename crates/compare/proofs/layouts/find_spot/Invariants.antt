use Rattle.record.specs.Scalars.{scalars_of}
use Rattle.record.specs.Reading.{rec}
use Rattle.layout.specs.Spots.{spots_left}
use Rattle.compare.proofs.LayoutLaws.{PlaceOn}
use Rattle.compare.proofs.layouts.find_spot.Given as goal

abbrev pub invariant-loop-x : goal.invariant-loop-x
invariant-loop-x l = PlaceOn (rec l.side.record.stream.now l.side.record.pool.now (scalars_of l.rows)) l.side.sizes.now l.name l.initial.cursor l.cursor

abbrev pub decreases-loop-x : goal.decreases-loop-x
decreases-loop-x l = spots_left l.side.record.stream.now l.cursor
