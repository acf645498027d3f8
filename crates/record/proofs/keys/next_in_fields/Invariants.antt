use Rattle.record.proofs.KeyLaws.{Keyless}
use lib.ListN.{length}
use Prim.Native.Nat.{◌-◌}
use Rattle.record.proofs.keys.next_in_fields.Given as goal

abbrev pub invariant-loop-after : goal.invariant-loop-after
invariant-loop-after l = Keyless l.stream l.initial.at l.at

abbrev pub decreases-loop-after : goal.decreases-loop-after
decreases-loop-after l = length l.stream - l.at
