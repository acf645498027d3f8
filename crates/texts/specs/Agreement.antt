-- How far two texts agree, as the code that compares them says it. Assumes nothing.
use Rattle.std.specs.Prelude.{ℕ, ◌+◌, ◌<◌, ◌≤◌, ◌≡◌, Bool, true, false, get_or, length}
use Rattle.texts.specs.Texts.{Str, eqs}

-- an answer to whether two texts agree in so many bytes from a place on
pub record Tested (a b : Str) (at n : ℕ) (answer : Bool) : Type 0 where
  pub alike : answer ≡ true → (k : ℕ) → k < n → get_or a (at + k) 0 ≡ get_or b (at + k) 0
  pub unlike : answer ≡ false → eqs a b ≡ false

-- two texts agree from a place on
pub record Agreed (a b : Str) (left : ℕ) : Type 0 where
  pub within : left ≤ length a
  pub equal : (k : ℕ) → left ≤ k → k < length a → get_or a k 0 ≡ get_or b k 0

-- and differ where that is not their whole length
pub record AgreedFrom (a b : Str) (left : ℕ) : Type 0 where
  pub agreed : Agreed a b left
  pub differ : 0 < left → eqs a b ≡ false
