-- Whether any element of a list passes a test, one element at a time. Assumes nothing.
use mathlib.Core.Path.{◌≡◌}
use mathlib.Core.List.{List, [], ◌∷◌}
use mathlib.Core.Bool.{Bool, true, false}
use Rattle.record.specs.Base.{any}

module _ {A : Type 0} (q : A → Bool) (l : List A) where
  pub any-end : l ≡ [] → any q l ≡ false
  unfolding any
  any-end e = rw e

  pub any-hit : (x : A) (m : List A) → l ≡ x ∷ m → q x ≡ true → any q l ≡ true
  unfolding any
  any-hit x m e h = rw (e, h)

  pub any-miss : (x : A) (m : List A) → l ≡ x ∷ m → q x ≡ false → any q l ≡ any q m
  unfolding any
  any-miss x m e h = rw (e, h)
