use Prim.Native.Nat.{◌-◌}
use lib.ListN.{length}
use Rattle.record.proofs.EndLaws.{Noting}
use Rattle.record.proofs.ends.index_with_ends.Given as goal

abbrev pub invariant-loop-ends : goal.invariant-loop-ends
invariant-loop-ends l = Noting l.stream l.pool l.initial.index l.index l.ends l.at

abbrev pub decreases-loop-ends : goal.decreases-loop-ends
decreases-loop-ends l = length l.stream - l.at
