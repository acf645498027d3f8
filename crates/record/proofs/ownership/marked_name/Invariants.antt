use Prim.Native.Nat.{◌-◌}
use lib.ListN.{length}
use Rattle.record.proofs.OwnerLaws.{NoneTo}
use Rattle.record.proofs.ownership.marked_name.Given as goal

abbrev pub invariant-loop-place : goal.invariant-loop-place
invariant-loop-place l = NoneTo l.stream l.pool l.marks l.name l.mark l.place

abbrev pub decreases-loop-place : goal.decreases-loop-place
decreases-loop-place l = length l.marks - l.place
