use Prim.Native.Nat.{◌-◌}
use lib.ListN.{length}
use Rattle.compare.proofs.BitfieldLaws.{SpanOn}
use Rattle.compare.proofs.bitfields.find_span.Given as goal

abbrev pub invariant-loop-m : goal.invariant-loop-m
invariant-loop-m l = SpanOn l.bit l.wide l.stream l.initial.cursor.at l.cursor.at

abbrev pub decreases-loop-m : goal.decreases-loop-m
decreases-loop-m l = length l.stream - l.cursor.at
