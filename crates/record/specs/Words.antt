-- The first four bytes of a text as a number: the code's way to compare names faster. Assumes nothing.
use Rattle.std.specs.Prelude.{ℕ, ◌+◌, ◌*◌, ◌<◌, ◌≤◌, ◌≡◌, get_or, length}
use Rattle.record.specs.Base.{Str}

-- the first four bytes of a text as a number, the first byte the highest and 0 for each that it does not have
unfoldable pub front_at : Str → ℕ
front_at s = 16777216 * get_or s 0 0 + 65536 * get_or s 1 0 + 256 * get_or s 2 0 + get_or s 3 0

-- that number of a text of bytes
pub record Fronted (s : Str) (r : ℕ) : Type 0 where
  pub number : r ≡ front_at s
  pub first : get_or s 0 0 < 256
  pub second : get_or s 1 0 < 256
  pub third : get_or s 2 0 < 256
  pub fourth : get_or s 3 0 < 256

-- two texts agree below an index that both reach
pub record Skipped (a b : Str) (n : ℕ) : Type 0 where
  pub agree : (k : ℕ) → k < n → get_or a k 0 ≡ get_or b k 0
  pub in-first : n ≤ length a
  pub in-second : n ≤ length b
