-- Texts cut at a byte. This project's own words, for releases and for the table of scalar words. Assumes nothing.
use Rattle.std.specs.Prelude.{ℕ, suc, [], ◌∷◌, cond, take, drop, eqb}
use Rattle.record.specs.Base.{Str}

-- the place of the first byte that is b, and the length where there is none
unfoldable pub place_of : ℕ → Str → ℕ
place_of b [] = 0
place_of b (a ∷ s) = cond (eqb a b) 0 (suc (place_of b s))

-- the bytes before it: all where there is none
unfoldable pub before_byte : ℕ → Str → Str
before_byte b s = take (place_of b s) s

-- the bytes after it: none where there is none
unfoldable pub after_byte : ℕ → Str → Str
after_byte b s = drop (suc (place_of b s)) s
