-- Pairs compared from the back (02, W-203): "Compare lengths first, then bytes from the last to the first .. a call over the same loop counts the
-- pairs compared: none at unequal lengths, else up to and with the first unequal, or all." Assumes nothing.
use Rattle.std.specs.Prelude.{ℕ, suc, [], ◌∷◌, reverse, cond, eqb, length}
use Rattle.texts.specs.Texts.{Str}

-- pairs of bytes from the front, up to and with the first unequal one, or all
unfoldable pub pairs_in_front : Str → Str → ℕ
pairs_in_front [] t = 0
pairs_in_front (a ∷ s) [] = 0
pairs_in_front (a ∷ s) (b ∷ t) = cond (eqb a b) (suc (pairs_in_front s t)) 1

unfoldable pub pairs_compared : Str → Str → ℕ
pairs_compared a b = cond (eqb (length a) (length b)) (pairs_in_front (reverse a) (reverse b)) 0
