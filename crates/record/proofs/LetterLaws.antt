-- What the search for an odd byte answers. Assumes nothing.
use Rattle.std.specs.Prelude.{Some, None}
use Prim.Native.Nat.{ℕ}
use mathlib.Core.Path.{◌≡◌, sym, ◌∙◌}
use lib.ListN.{length}
use borrow.Author.Tests.{eq-eqb, ne_eqb}
use Rattle.texts.specs.Utf8.{odd_place}
use Rattle.record.specs.Base.{Str}
use Rattle.record.specs.Letters.{odd_letter}

module _ (l : Str) (at : ℕ) where
  pub none-odd : at ≡ odd_place l → at ≡ length l → None ≡ odd_letter l
  unfolding odd_letter
  none-odd e h = rw (eq-eqb (odd_place l) (length l) (sym e ∙ h))

  pub one-odd : at ≡ odd_place l → (at ≡ length l → ⊥) → Some at ≡ odd_letter l
  unfolding odd_letter
  one-odd e h = rw (ne_eqb (odd_place l) (length l) (λ f. h (e ∙ f)), ← e)
