use Rattle.layout.proofs.SortLaws.{Passed}
use Prim.Native.Nat.{◌-◌, ◌<◌}
use mathlib.Core.Path.{◌≡◌}
use lib.ListN.{length}
use Rattle.layout.specs.Handles.{type_name}
use Rattle.layout.proofs.sort.pass.Given as goal

abbrev pub invariant-loop-lo : goal.invariant-loop-lo
invariant-loop-lo l = Passed (type_name l.stream l.pool) l.w l.src l.dst l.lo × (l.n ≡ length l.src) × (0 < l.w)

abbrev pub decreases-loop-lo : goal.decreases-loop-lo
decreases-loop-lo l = l.n - l.lo
