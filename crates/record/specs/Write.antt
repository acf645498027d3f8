-- What putting bytes into a buffer leaves in it, and what it answers. This project's own words, in place of the Rust's format!. Assumes nothing.
use Rattle.std.specs.Prelude.{ℕ, ◌+◌, ◌≤◌, ◌≡◌, cond, length, leb}
use Rattle.record.specs.Base.{Str}
use Rattle.record.specs.Fill.{placed}

-- the largest number of 64 bits
abbrev pub largest : ℕ
largest = 18446744073709551615

-- a number as far as the largest, which stands for all that are larger
unfoldable pub saturated : ℕ → ℕ
saturated n = cond (leb n largest) n largest

-- the buffer before, a place in it, the bytes, the buffer afterwards and the answer. The answer is the place after the bytes, whether they fit or
-- not; where they fit they stand in their place, with the rest as it was. Where they do not fit, the bytes of the buffer afterwards are free: a
-- caller measures first
pub record Puts (out : Str) (at : ℕ) (xs after : Str) (r : ℕ) : Type 0 where
  pub end : r ≡ saturated (at + length xs)
  pub long : length after ≡ length out
  -- lists of the machine are no longer
  pub fits : length out ≤ largest
  pub bytes : at + length xs ≤ length out → after ≡ placed out at xs
