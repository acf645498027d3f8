use Prim.Native.Nat.{◌≤◌}
use mathlib.Core.Path.{◌≡◌}
use lib.ListN.{length}
use Rattle.record.specs.Scalars.{scalars_of}
use Rattle.record.specs.Reading.{rec}
use Rattle.compare.specs.Layouts.{types_of}
use Rattle.compare.proofs.FieldLaws.{Visited, TypesOn}
use Rattle.compare.proofs.fields.check_fields.Given as goal

abbrev pub invariant-loop-i : goal.invariant-loop-i
invariant-loop-i l = TypesOn (rec l.laid.sides.released.record.stream.now l.laid.sides.released.record.pool.now (scalars_of l.laid.sides.rows.now)) l.laid.old_types.now (types_of (rec l.laid.sides.current.record.stream.now l.laid.sides.current.record.pool.now (scalars_of l.laid.sides.rows.now))) (types_of (rec l.laid.sides.released.record.stream.now l.laid.sides.released.record.pool.now (scalars_of l.laid.sides.rows.now))) l.i × Visited (rec l.laid.sides.current.record.stream.now l.laid.sides.current.record.pool.now (scalars_of l.laid.sides.rows.now)) (rec l.laid.sides.released.record.stream.now l.laid.sides.released.record.pool.now (scalars_of l.laid.sides.rows.now)) l.laid.types.now l.laid.old_types.now l.cover l.i × (length l.laid.types.now ≤ length l.cover) × (length l.cover ≡ length l.initial.cover)
