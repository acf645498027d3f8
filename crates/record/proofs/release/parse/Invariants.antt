use Prim.Native.Nat.{◌<◌, ◌^◌}
use mathlib.Core.Path.{◌≡◌}
use lib.ListN.{drop}
use Rattle.record.specs.Release.{number, as_u32}
use Rattle.record.proofs.release.parse.Given as goal

abbrev pub invariant-loop-b : goal.invariant-loop-b
invariant-loop-b l = (l.n < 2 ^ 32) × (as_u32 (number 0 l.part) ≡ as_u32 (number l.n (drop l.b-index l.part)))
