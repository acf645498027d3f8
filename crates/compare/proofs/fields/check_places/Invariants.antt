use Rattle.record.specs.Scalars.{scalars_of}
use Rattle.record.specs.Reading.{rec}
use Rattle.layout.specs.Names.{name_of}
use Rattle.layout.specs.Spots.{places_from, spots_left}
use Rattle.compare.proofs.FieldLaws.{PlacesOn}
use Rattle.compare.proofs.fields.check_places.Given as goal

abbrev pub invariant-loop-was : goal.invariant-loop-was
invariant-loop-was l = PlacesOn (rec l.sides.released.record.stream.now l.sides.released.record.pool.now (scalars_of l.sides.rows.now)) l.sides.released.sizes.now (name_of l.sides.released.record.pool.now l.pair.owner) (places_from (rec l.sides.current.record.stream.now l.sides.current.record.pool.now (scalars_of l.sides.rows.now)) l.pair.is) l.pair.was l.cursor

abbrev pub decreases-loop-was : goal.decreases-loop-was
decreases-loop-was l = spots_left l.sides.released.record.stream.now l.cursor
