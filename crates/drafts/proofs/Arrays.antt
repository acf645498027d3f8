-- An array as it is made. Assumes nothing.
use mathlib.Core.Path.{◌≡◌, refl, ap}
use mathlib.Core.List.{List}
use Prim.Native.Nat.{ℕ, zero, suc}
use lib.ListN.{length, replicate}

abbrev pub zeros : ℕ → List ℕ
zeros k = replicate k 0

pub zeros-long : (k : ℕ) → length (zeros k) ≡ k
zeros-long zero = refl
zeros-long (suc k) = ap suc (zeros-long k)
