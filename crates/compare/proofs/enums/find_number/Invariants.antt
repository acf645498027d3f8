use Prim.Native.Nat.{◌-◌}
use lib.ListN.{length}
use Rattle.compare.proofs.EnumLaws.{NumberOn}
use Rattle.compare.proofs.enums.find_number.Given as goal

abbrev pub invariant-loop-v : goal.invariant-loop-v
invariant-loop-v l = NumberOn l.number l.stream l.initial.cursor.at l.cursor.at

abbrev pub decreases-loop-v : goal.decreases-loop-v
decreases-loop-v l = length l.stream - l.cursor.at
