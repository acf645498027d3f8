use Rattle.record.proofs.KeyLaws.{Idle}
use Rattle.record.specs.declared.keys.StoredAt.TheVariants.{Structs}
use lib.ListN.{length}
use Prim.Native.Nat.{◌-◌}
use Rattle.record.proofs.keys.next_in_structs.Given as goal

abbrev pub invariant-loop-after : goal.invariant-loop-after
invariant-loop-after l = Idle l.stream (Structs l.initial.cursor) (Structs l.cursor)

abbrev pub decreases-loop-after : goal.decreases-loop-after
decreases-loop-after l = length l.stream - l.cursor.at
