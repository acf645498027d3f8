use Rattle.record.specs.Scalars.{scalars_of}
use Rattle.record.specs.Reading.{rec}
use Rattle.layout.specs.Spots.{places_from, spots_left}
use Rattle.compare.proofs.StandaloneLaws.{GainedOn}
use Rattle.compare.proofs.standalone.gained.Given as goal

abbrev pub invariant-loop-x : goal.invariant-loop-x
invariant-loop-x l = GainedOn (rec l.sides.current.record.stream.now l.sides.current.record.pool.now (scalars_of l.sides.rows.now)) l.sides.current.sizes.now (places_from (rec l.sides.released.record.stream.now l.sides.released.record.pool.now (scalars_of l.sides.rows.now)) l.was) l.initial.cursor l.cursor

abbrev pub decreases-loop-x : goal.decreases-loop-x
decreases-loop-x l = spots_left l.sides.current.record.stream.now l.cursor
