use mathlib.Core.Path.{◌≡◌}
use mathlib.Core.List.{◌++◌}
use Prim.Native.Nat.{◌≤◌, ◌<◌, ◌-◌, ◌^◌}
use lib.ListN.{length, drop}
use Rattle.record.specs.Base.{digits, decimal}
use Rattle.record.proofs.writer.decimal.Given as goal

abbrev pub invariant-loop-rest : goal.invariant-loop-rest
invariant-loop-rest l =
    (2 ≤ l.i) × (l.i ≤ 21) × (length l.bytes ≡ 21) × (l.rest < 10 ^ (l.i - 1)) × (digits (l.i - 1) l.rest ++ drop l.i l.bytes ≡ decimal l.n)

abbrev pub decreases-loop-rest : goal.decreases-loop-rest
decreases-loop-rest l = l.rest
