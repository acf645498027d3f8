use mathlib.Core.Path.{◌≡◌}
use Prim.Native.Nat.{◌-◌}
use lib.ListN.{length}
use Rattle.record.specs.Steps.{versions_at}
use Rattle.definition.specs.Generations.{is_listed}
use Rattle.compare.proofs.generations.is_listed.Given as goal

abbrev pub invariant-loop-v : goal.invariant-loop-v
invariant-loop-v l = is_listed l.root l.number (versions_at l.current.stream.now l.current.pool.now 0) ≡ is_listed l.root l.number (versions_at l.current.stream.now l.current.pool.now l.cursor.at)

abbrev pub decreases-loop-v : goal.decreases-loop-v
decreases-loop-v l = length l.current.stream.now - l.cursor.at
