-- Texts put together: pieces one after the other, and a text in the place of a buffer's bytes. This project's own words, for 01's "at the front of
-- the lent buffer and nothing after it". Assumes nothing.
use Rattle.std.specs.Prelude.{ℕ, ◌+◌, List, [], ◌∷◌, ◌++◌, length, take, drop}
use Rattle.record.specs.Base.{Str}

-- pieces one after the other
unfoldable pub joined : List Str → Str
joined [] = []
joined (t ∷ ts) = t ++ joined ts

-- out with xs in the place of as many elements from at on
unfoldable pub placed : Str → ℕ → Str → Str
placed out at xs = take at out ++ xs ++ drop (at + length xs) out

-- out with xs at its front
unfoldable pub fronted : Str → Str → Str
fronted out xs = xs ++ drop (length xs) out
