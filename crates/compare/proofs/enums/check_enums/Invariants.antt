use mathlib.Core.Path.{◌≡◌}
use Prim.Native.Nat.{◌-◌}
use lib.ListN.{length}
use Rattle.record.specs.Steps.{enums_at}
use Rattle.definition.specs.Enums.{check_enums}
use Rattle.compare.proofs.enums.check_enums.Given as goal

abbrev pub invariant-loop-was : goal.invariant-loop-was
invariant-loop-was l = check_enums (enums_at l.current.record.stream.now l.current.record.pool.now 0) (enums_at l.released.stream.now l.released.pool.now 0) ≡ check_enums (enums_at l.current.record.stream.now l.current.record.pool.now 0) (enums_at l.released.stream.now l.released.pool.now l.cursor.at)

abbrev pub decreases-loop-was : goal.decreases-loop-was
decreases-loop-was l = length l.released.stream.now - l.cursor.at
