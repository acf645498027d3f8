use mathlib.Core.Path.{◌≡◌}
use Prim.Native.Nat.{◌-◌}
use lib.ListN.{length}
use Rattle.record.specs.Stretch.{text_of}
use Rattle.record.specs.Steps.{values_at}
use Rattle.definition.specs.Enums.{check_values}
use Rattle.compare.proofs.enums.check_values.Given as goal

abbrev pub invariant-loop-was : goal.invariant-loop-was
invariant-loop-was l = check_values (text_of l.released.pool.now l.owner) (values_at l.current.stream.now l.current.pool.now l.is.at) (values_at l.released.stream.now l.released.pool.now l.initial.cursor.at) ≡ check_values (text_of l.released.pool.now l.owner) (values_at l.current.stream.now l.current.pool.now l.is.at) (values_at l.released.stream.now l.released.pool.now l.cursor.at)

abbrev pub decreases-loop-was : goal.decreases-loop-was
decreases-loop-was l = length l.released.stream.now - l.cursor.at
