use Rattle.record.specs.Scalars.{scalars_of}
use Rattle.record.specs.Reading.{rec}
use Rattle.layout.specs.Spots.{spots_left}
use Rattle.compare.proofs.LayoutLaws.{Agreed}
use Rattle.compare.proofs.layouts.same_rest.Given as goal

abbrev pub invariant-loop-x : goal.invariant-loop-x
invariant-loop-x l = Agreed (rec l.sides.current.record.stream.now l.sides.current.record.pool.now (scalars_of l.sides.rows.now)) (rec l.sides.released.record.stream.now l.sides.released.record.pool.now (scalars_of l.sides.rows.now)) l.sides.current.sizes.now l.sides.released.sizes.now l.initial.is l.initial.was l.is l.was

abbrev pub decreases-loop-x : goal.decreases-loop-x
decreases-loop-x l = spots_left l.sides.current.record.stream.now l.is
