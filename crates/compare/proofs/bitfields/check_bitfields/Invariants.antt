use mathlib.Core.Path.{◌≡◌}
use Prim.Native.Nat.{◌-◌}
use lib.ListN.{length}
use Rattle.record.specs.Steps.{bitfields_at}
use Rattle.definition.specs.Bitfields.{check_bitfields}
use Rattle.compare.proofs.bitfields.check_bitfields.Given as goal

abbrev pub invariant-loop-was : goal.invariant-loop-was
invariant-loop-was l = check_bitfields (bitfields_at l.current.stream.now l.current.pool.now 0) (bitfields_at l.released.stream.now l.released.pool.now 0) ≡ check_bitfields (bitfields_at l.current.stream.now l.current.pool.now 0) (bitfields_at l.released.stream.now l.released.pool.now l.cursor.at)

abbrev pub decreases-loop-was : goal.decreases-loop-was
decreases-loop-was l = length l.released.stream.now - l.cursor.at
