-- The code's way past letters of one byte, and letter by letter. Assumes nothing.
use Rattle.std.specs.Prelude.{ℕ, ◌+◌, ◌≤◌, ◌<◌, ◌≡◌, [], ◌∷◌, Bool, true, ◌&&◌, length, drop}
use Rattle.texts.specs.Texts.{Str}
use Rattle.texts.specs.Utf8.{inside, letter_length, odd_place}

-- a letter of one byte
unfoldable pub is_plain : ℕ → Bool
is_plain b = inside 0x20 0x7e b

unfoldable pub all_plain : Str → Bool
all_plain [] = true
all_plain (b ∷ s) = is_plain b && all_plain s

-- from a place on, all letters before another were passed, or an odd one is there
pub record Passed (s : Str) (from end r : ℕ) : Type 0 where
  pub far : from ≤ r
  pub there : r ≤ length s
  pub same : from + odd_place (drop from s) ≡ r + odd_place (drop r s)
  pub odd : r < end → letter_length (drop r s) ≡ 0
