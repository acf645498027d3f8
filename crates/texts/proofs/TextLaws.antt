-- Equality of texts, and laws of tests and loops that all proofs use. Assumes nothing.
use Prim.Native.Nat.{ℕ, suc, ◌≤◌, ◌<◌}
use mathlib.Core.Bool.{Bool, true, false, ◌&&◌, and-eq-true_iff, false≢true}
use mathlib.Core.List.{[], ◌∷◌}
use mathlib.Core.Logic.{◌⊎◌, inl, inr}
use mathlib.Core.Path.{◌≡◌, refl, sym, ap, ap₂, ◌∙◌}
use native.Mathlib.Omega.{arith}
use lib.Dec.{eqb, ltb}
use lib.ListN.{length, get_or}
use borrow.Author.Tests.{eqb-true, eq-eqb, ltb-true, ltb-false}
use Rattle.texts.specs.Texts.{Str, eqs}

pub below_or : (a b : ℕ) → (a < b) ⊎ (b ≤ a)
below_or a b = go (ltb a b) refl
  where
    go : (t : Bool) → ltb a b ≡ t → (a < b) ⊎ (b ≤ a)
    go true e = inl (ltb-true a b e)
    go false e = inr (ltb-false a b e)

pub both : (a b : Bool) → (a && b) ≡ true → (a ≡ true) × (b ≡ true)
both a b = (and-eq-true_iff a b).0

-- a loop's invariant says that the answer wanted is x's, so far: it stays so after a step, and at a way out the value there is the answer
pub kept : {A : Type 0} {x y z : A} → x ≡ y → y ≡ z → x ≡ z
kept p q = p ∙ q

pub ended : {A : Type 0} {x y z : A} → x ≡ y → y ≡ z → z ≡ x
ended p q = sym (p ∙ q)

pub eqs→eq : (s t : Str) → eqs s t ≡ true → s ≡ t
unfolding eqs
eqs→eq [] [] h = refl
eqs→eq [] (b ∷ t) h = absurd (false≢true h)
eqs→eq (a ∷ s) [] h = absurd (false≢true h)
eqs→eq (a ∷ s) (b ∷ t) h =
    let k = both (eqb a b) (eqs s t) h in
    ap₂ ◌∷◌ (eqb-true a b k.0) (eqs→eq s t k.1)

pub eqs-refl : (s : Str) → eqs s s ≡ true
unfolding eqs
eqs-refl [] = refl
eqs-refl (a ∷ s) = rw (eq-eqb a a refl, eqs-refl s)

-- texts of one length with the same byte at every place are the same
pub same_bytes : (a b : Str) → length a ≡ length b → ((k : ℕ) → k < length a → get_or a k 0 ≡ get_or b k 0) → a ≡ b
same_bytes [] [] e h = refl
same_bytes [] (y ∷ b) e h = absurd (omega arith)
same_bytes (x ∷ a) [] e h = absurd (omega arith)
same_bytes (x ∷ a) (y ∷ b) e h = ap₂ ◌∷◌ (h 0 (omega arith)) (same_bytes a b (omega arith) (λ k t. h (suc k) (omega arith)))

-- texts of which something differs are not
pub differs : (f : Str → ℕ) (a b : Str) → (f a ≡ f b → ⊥) → eqs a b ≡ false
differs f a b d = go (eqs a b) refl
  where
    go : (t : Bool) → eqs a b ≡ t → t ≡ false
    go true e = absurd (d (ap f (eqs→eq a b e)))
    go false e = refl
