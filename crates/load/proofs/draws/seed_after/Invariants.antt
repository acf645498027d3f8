use Prim.Native.Nat.{◌-◌}
use Rattle.load.specs.Draws.{seed_after}
use mathlib.Core.Path.{◌≡◌}
use Rattle.load.proofs.draws.seed_after.Given as goal

abbrev pub invariant-loop : goal.invariant-loop
invariant-loop l = seed_after l.k l.seed ≡ seed_after (l.k - l.counter) l.s
