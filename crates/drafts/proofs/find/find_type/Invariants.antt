use lib.ListN.{length}
use Prim.Native.Nat.{◌-◌}
use Rattle.drafts.proofs.FindLaws.{Finding}
use Rattle.drafts.proofs.find.find_type.Given as goal

abbrev pub invariant-loop-at : goal.invariant-loop-at
invariant-loop-at l = Finding l.stream l.pool l.name l.at

abbrev pub decreases-loop-at : goal.decreases-loop-at
decreases-loop-at l = length l.stream - l.at
