use mathlib.Core.Path.{◌≡◌}
use Prim.Native.Nat.{◌-◌}
use lib.ListN.{length}
use Rattle.pointers.specs.Pointers.{fault_from}
use Rattle.pointers.proofs.check.first_fault.Given as goal

abbrev pub invariant-loop-place : goal.invariant-loop-place
invariant-loop-place l = fault_from l.stream l.pool 0 ≡ fault_from l.stream l.pool l.at

abbrev pub decreases-loop-place : goal.decreases-loop-place
decreases-loop-place l = length l.stream - l.at
