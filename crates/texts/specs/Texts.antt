-- Texts as lists of bytes, and their equality. This project's own words. Assumes nothing.
use Rattle.std.specs.Prelude.{List, [], ◌∷◌, Bool, true, false, ◌&&◌, ℕ, eqb}

abbrev pub Str : Type 0
Str = List ℕ

unfoldable pub eqs : Str → Str → Bool
eqs [] [] = true
eqs [] (b ∷ t) = false
eqs (a ∷ s) [] = false
eqs (a ∷ s) (b ∷ t) = eqb a b && eqs s t
