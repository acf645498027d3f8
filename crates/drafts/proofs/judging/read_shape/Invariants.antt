use Rattle.drafts.proofs.ShapeLaws.{Along}
use lib.ListN.{length}
use Prim.Native.Nat.{◌-◌}
use Rattle.drafts.proofs.judging.read_shape.Given as goal

abbrev pub invariant-loop-after : goal.invariant-loop-after
invariant-loop-after l = Along l.stream l.plain l.at l.last

abbrev pub decreases-loop-after : goal.decreases-loop-after
decreases-loop-after l = length l.stream - l.at
