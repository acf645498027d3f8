use Prim.Native.Nat.{◌+◌}
use mathlib.Core.Path.{◌≡◌}
use Rattle.layout.specs.Handles.{type_name}
use Rattle.layout.proofs.SortLaws.{Merged}
use Rattle.layout.proofs.sort.merge_runs.Given as goal

abbrev pub invariant-loop-slot : goal.invariant-loop-slot
invariant-loop-slot l = Merged (type_name l.stream l.pool) l.left l.right l.out l.i l.j × (l.slot-index ≡ l.i + l.j)
