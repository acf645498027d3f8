use Prim.Native.Nat.{◌-◌}
use mathlib.Core.Path.{◌≡◌}
use lib.ListN.{length}
use Rattle.record.specs.Scalars.{scalars_of}
use Rattle.record.specs.Reading.{rec}
use Rattle.record.specs.Stretch.{text_of}
use Rattle.record.specs.Steps.{variants_at}
use Rattle.compare.specs.Layouts.{types_of}
use Rattle.definition.specs.Standalone.{variant_names, check_shipped_all}
use Rattle.compare.proofs.standalone.check_variants.Given as goal

abbrev pub invariant-loop-variant : goal.invariant-loop-variant
invariant-loop-variant l = check_shipped_all (types_of (rec l.laid.sides.current.record.stream.now l.laid.sides.current.record.pool.now (scalars_of l.laid.sides.rows.now))) (types_of (rec l.laid.sides.released.record.stream.now l.laid.sides.released.record.pool.now (scalars_of l.laid.sides.rows.now))) (variant_names (text_of l.laid.sides.current.record.pool.now l.family) (variants_at l.laid.sides.current.record.stream.now l.laid.sides.current.record.pool.now l.initial.cursor.at)) ≡ check_shipped_all (types_of (rec l.laid.sides.current.record.stream.now l.laid.sides.current.record.pool.now (scalars_of l.laid.sides.rows.now))) (types_of (rec l.laid.sides.released.record.stream.now l.laid.sides.released.record.pool.now (scalars_of l.laid.sides.rows.now))) (variant_names (text_of l.laid.sides.current.record.pool.now l.family) (variants_at l.laid.sides.current.record.stream.now l.laid.sides.current.record.pool.now l.cursor.at))

abbrev pub decreases-loop-variant : goal.decreases-loop-variant
decreases-loop-variant l = length l.laid.sides.current.record.stream.now - l.cursor.at
