use Prim.Native.Nat.{◌-◌}
use mathlib.Core.Path.{◌≡◌}
use lib.ListN.{length}
use Rattle.record.specs.Scalars.{scalars_of}
use Rattle.record.specs.Reading.{rec}
use Rattle.record.specs.Steps.{families_at}
use Rattle.compare.specs.Layouts.{types_of}
use Rattle.definition.specs.Standalone.{check_standalone}
use Rattle.compare.proofs.standalone.check_standalone.Given as goal

abbrev pub invariant-loop-m : goal.invariant-loop-m
invariant-loop-m l = check_standalone (families_at l.laid.sides.current.record.stream.now l.laid.sides.current.record.pool.now 0) (families_at l.laid.sides.released.record.stream.now l.laid.sides.released.record.pool.now 0) (types_of (rec l.laid.sides.current.record.stream.now l.laid.sides.current.record.pool.now (scalars_of l.laid.sides.rows.now))) (types_of (rec l.laid.sides.released.record.stream.now l.laid.sides.released.record.pool.now (scalars_of l.laid.sides.rows.now))) ≡ check_standalone (families_at l.laid.sides.current.record.stream.now l.laid.sides.current.record.pool.now l.cursor.at) (families_at l.laid.sides.released.record.stream.now l.laid.sides.released.record.pool.now 0) (types_of (rec l.laid.sides.current.record.stream.now l.laid.sides.current.record.pool.now (scalars_of l.laid.sides.rows.now))) (types_of (rec l.laid.sides.released.record.stream.now l.laid.sides.released.record.pool.now (scalars_of l.laid.sides.rows.now)))

abbrev pub decreases-loop-m : goal.decreases-loop-m
decreases-loop-m l = length l.laid.sides.current.record.stream.now - l.cursor.at
