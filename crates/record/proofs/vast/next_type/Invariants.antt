use Prim.Native.Nat.{◌-◌}
use lib.ListN.{length}
use Rattle.record.proofs.VastLaws.{Onward}
use Rattle.record.proofs.vast.next_type.Given as goal

abbrev pub invariant-loop-at : goal.invariant-loop-at
invariant-loop-at l = Onward l.stream l.initial.at l.at

abbrev pub decreases-loop-at : goal.decreases-loop-at
decreases-loop-at l = length l.stream - l.at
