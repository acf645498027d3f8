use Prim.Native.Nat.{◌-◌, ◌<◌}
use mathlib.Core.Path.{◌≡◌}
use lib.ListN.{length}
use Rattle.layout.specs.Handles.{type_name}
use Rattle.layout.specs.Sort.{arranged, chunks}
use Rattle.layout.proofs.sort.sort_handles.Given as goal

abbrev pub invariant-loop-w : goal.invariant-loop-w
invariant-loop-w l = (l.handles ≡ chunks (arranged (type_name l.stream l.pool)) l.w l.initial.handles) × (length l.handles ≡ length l.initial.handles) × (length l.scratch ≡ length l.initial.handles) × (0 < l.w)

abbrev pub decreases-loop-w : goal.decreases-loop-w
decreases-loop-w l = length l.initial.handles - l.w
