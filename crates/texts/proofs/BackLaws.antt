-- Texts compared from the back, some bytes at a time. Assumes nothing.
use Prim.Native.Nat.{ℕ, zero, suc, ◌+◌, ◌-◌, ◌≤◌, ◌<◌}
use mathlib.Core.Bool.{Bool, true, false, not}
use mathlib.Core.List.{[], ◌∷◌, reverse, reverse-cons}
use mathlib.Core.Logic.{◌⊎◌, inl, inr}
use mathlib.Core.Path.{◌≡◌, refl, sym, ap, subst, ◌∙◌}
use native.Mathlib.Omega.{arith}
use lib.Dec.{eqb}
use lib.ListN.{length, get_or, length-reverse, get_or-append}
use lib.Seq.{get_or_at}
use borrow.Author.Tests.{eq-eqb, ne_eqb, eqb-true, eqb-false, not-true, not-false}
use Rattle.texts.specs.Texts.{Str, eqs}
use Rattle.texts.specs.Le.{u32_at, u64_at}
use Rattle.texts.specs.Back.{pairs_in_front, pairs_compared}
use Rattle.texts.specs.Agreement.{Tested, Agreed, AgreedFrom}
use Rattle.texts.proofs.TextLaws.{below_or, eqs-refl, same_bytes, differs}
use Rattle.texts.proofs.WordLaws.{Bytes, half-agree, word-agree}

-- several bytes at once ---------------------------------------------------------------------------------------------------------

module _ (a b : Str) (f : Bytes a) (g : Bytes b) (at x y : ℕ) where
  pub word-tested : x ≡ u64_at a at → y ≡ u64_at b at → Tested a b at 8 (eqb x y)
  word-tested p q = record {
    alike = λ e. word-agree a b f g at (sym p ∙ eqb-true x y e ∙ q);
    unlike = λ e. differs (λ (s : Str). u64_at s at) a b (λ h. eqb-false x y e (p ∙ h ∙ sym q));
  }

  pub half-tested : x ≡ u32_at a at → y ≡ u32_at b at → Tested a b at 4 (eqb x y)
  half-tested p q = record {
    alike = λ e. half-agree a b f g at (sym p ∙ eqb-true x y e ∙ q);
    unlike = λ e. differs (λ (s : Str). u32_at s at) a b (λ h. eqb-false x y e (p ∙ h ∙ sym q));
  }

-- how far two texts agree -------------------------------------------------------------------------------------------------------

module _ (a b : Str) where
  pub agreed-none : Agreed a b (length a)
  agreed-none = record { within = omega arith; equal = λ k p q. absurd (omega arith) }

  -- bytes that agree in front of others that do, or over them
  agreed-down : (n left next : ℕ) (t : Bool) → Agreed a b left → Tested a b next n t → t ≡ true → left ≤ next + n → next ≤ left → Agreed a b next
  agreed-down n left next t g h e l m = let i = g.within in record { within = omega arith; equal = λ k p q. go k p q (below_or k left) }
    where
      go : (k : ℕ) → next ≤ k → k < length a → (k < left) ⊎ (left ≤ k) → get_or a k 0 ≡ get_or b k 0
      go k p q (inl r) = subst (λ (j : ℕ). get_or a j 0 ≡ get_or b j 0) (let z : next + (k - next) ≡ k = omega arith in z) (h.alike e (k - next) (omega arith))
      go k p q (inr r) = g.equal k r q

  -- bytes read together, a word by the loop or any others: the ways on and out
  pub word_on : (left : ℕ) (t : Bool) → Agreed a b left → 8 < left → Tested a b (left - 8) 8 t → not t ≡ false → Agreed a b (left - 8)
  word_on left t g l h e = agreed-down 8 left (left - 8) t g h (not-false t e) (omega arith) (omega arith)

  pub tested-out : (at n left : ℕ) (t : Bool) → Agreed a b left → Tested a b at n t → t ≡ false → AgreedFrom a b left
  tested-out at n left t g h e = record { agreed = g; differ = λ p. h.unlike e }

  pub unlike-out : (at n left : ℕ) (t : Bool) → Agreed a b left → Tested a b at n t → not t ≡ true → AgreedFrom a b left
  unlike-out at n left t g h e = tested-out at n left t g h (not-true t e)

  all-out : Agreed a b 0 → AgreedFrom a b 0
  all-out g = record { agreed = g; differ = λ p. absurd (omega arith) }

  pub front_out : (left : ℕ) (t : Bool) → Agreed a b left → left ≤ 8 → Tested a b 0 8 t → t ≡ true → AgreedFrom a b 0
  front_out left t g l h e = all-out (agreed-down 8 left 0 t g h e l (omega arith))

  -- two halves, the second over the first
  module _ (t u : Bool) (l : 4 ≤ length a) (f : Tested a b (length a - 4) 4 t) (g : Tested a b 0 4 u) (d : not t ≡ false) where
    half-behind : Agreed a b (length a - 4)
    half-behind = agreed-down 4 (length a) (length a - 4) t agreed-none f (not-false t d) (omega arith) (omega arith)

    pub halves-out : length a ≤ 8 → u ≡ true → AgreedFrom a b 0
    halves-out m e = all-out (agreed-down 4 (length a - 4) 0 u half-behind g e (omega arith) (omega arith))

    pub half_out : u ≡ false → AgreedFrom a b (length a - 4)
    half_out e = tested-out 0 4 (length a - 4) u half-behind g e

  -- single bytes, and none
  pub byte-out : (at : ℕ) → (get_or a at 0 ≡ get_or b at 0 → ⊥) → AgreedFrom a b (length a)
  byte-out at d = record { agreed = agreed-none; differ = λ p. differs (λ (s : Str). get_or s at 0) a b d }

  pub none_out : length a ≡ 0 → AgreedFrom a b 0
  none_out e = all-out (record { within = omega arith; equal = λ k p q. absurd (omega arith) })

  -- the yes or no -----------------------------------------------------------------------------------------------------------------

  pub same_length : (length a ≡ length b → ⊥) → false ≡ eqs a b
  same_length d = sym (differs (λ (s : Str). length s) a b d)

  pub unlike_lengths : (length a ≡ length b → ⊥) → eqb (length a) (length b) ≡ eqs a b
  unlike_lengths d = ne_eqb (length a) (length b) d ∙ same_length d

  pub same-is : (left : ℕ) → length a ≡ length b → AgreedFrom a b left → eqb left 0 ≡ eqs a b
  same-is zero e g = eq-eqb 0 0 refl ∙ sym (ap (eqs a) (sym (same_bytes a b e (λ k p. g.agreed.equal k (omega arith) p))) ∙ eqs-refl a)
  same-is (suc left) e g = ne_eqb (suc left) 0 (λ z. omega arith) ∙ sym (g.differ (omega arith))

-- the count of pairs ------------------------------------------------------------------------------------------------------------

front-stop : (x y : Str) (n : ℕ) → length x ≡ length y → n < length x → ((k : ℕ) → k < n → get_or x k 0 ≡ get_or y k 0) → (get_or x n 0 ≡ get_or y n 0 → ⊥)
    → pairs_in_front x y ≡ suc n
unfolding pairs_in_front
front-stop [] y n e l h d = absurd (omega arith)
front-stop (a ∷ x) [] n e l h d = absurd (omega arith)
front-stop (a ∷ x) (b ∷ y) zero e l h d = rw (ne_eqb a b d)
front-stop (a ∷ x) (b ∷ y) (suc n) e l h d =
    rw (eq-eqb a b (h 0 (omega arith))) (ap suc (front-stop x y n (omega arith) (omega arith) (λ k t. h (suc k) (omega arith)) d))

front-all : (x y : Str) → length x ≡ length y → ((k : ℕ) → k < length x → get_or x k 0 ≡ get_or y k 0) → pairs_in_front x y ≡ length x
unfolding pairs_in_front
front-all [] y e h = omega arith
front-all (a ∷ x) [] e h = absurd (omega arith)
front-all (a ∷ x) (b ∷ y) e h = rw (eq-eqb a b (h 0 (omega arith))) (ap suc (front-all x y (omega arith) (λ k t. h (suc k) (omega arith))))

reverse-at : (l : Str) (k j : ℕ) → k + j + 1 ≡ length l → get_or (reverse l) k 0 ≡ get_or l j 0
reverse-at [] k j e = absurd (omega arith)
reverse-at (x ∷ l) k zero e = ap (λ (m : Str). get_or m k 0) (reverse-cons x l) ∙ get_or_at (reverse l) x [] 0 k (length-reverse l ∙ (let z : length l ≡ k = omega arith in z))
reverse-at (x ∷ l) k (suc j) e =
    ap (λ (m : Str). get_or m k 0) (reverse-cons x l)
    ∙ get_or-append (reverse l) (x ∷ []) 0 k (let z = length-reverse l in omega arith)
    ∙ reverse-at l k j (omega arith)

module _ (a b : Str) where
  pub pairs-none : (length a ≡ length b → ⊥) → 0 ≡ pairs_compared a b
  unfolding pairs_compared
  pairs-none d = rw (ne_eqb (length a) (length b) d)

  pub byte-on : (left : ℕ) → Agreed a b left → 0 < left → get_or a (left - 1) 0 ≡ get_or b (left - 1) 0 → Agreed a b (left - 1)
  byte-on left g l e = let i = g.within in record { within = omega arith; equal = λ k p q. go k q (below_or k left) p }
    where
      go : (k : ℕ) → k < length a → (k < left) ⊎ (left ≤ k) → left - 1 ≤ k → get_or a k 0 ≡ get_or b k 0
      go k q (inl r) p = subst (λ (j : ℕ). get_or a j 0 ≡ get_or b j 0) (let z : left - 1 ≡ k = omega arith in z) e
      go k q (inr r) p = g.equal k r q

  module _ (e : length a ≡ length b) (left : ℕ) (g : Agreed a b left) where
    -- the pair of a number, counted from the back
    pair : (k j : ℕ) → k + j + 1 ≡ length a → get_or a j 0 ≡ get_or b j 0 → get_or (reverse a) k 0 ≡ get_or (reverse b) k 0
    pair k j h q = reverse-at a k j h ∙ q ∙ sym (reverse-at b k j (h ∙ e))

    lengths : length (reverse a) ≡ length (reverse b)
    lengths = length-reverse a ∙ e ∙ sym (length-reverse b)

    pub pairs-stop : 0 < left → (get_or a (left - 1) 0 ≡ get_or b (left - 1) 0 → ⊥) → length a - (left - 1) ≡ pairs_compared a b
    unfolding pairs_compared
    pairs-stop l d =
        let i = g.within in
        let n = length-reverse a in
        let z : length a - (left - 1) ≡ suc (length a - left) = omega arith in
        rw (eq-eqb (length a) (length b) e)
        (z ∙ sym
        (front-stop (reverse a) (reverse b) (length a - left) lengths (omega arith)
        (λ k p. pair k (length a - k - 1) (omega arith) (g.equal (length a - k - 1) (omega arith) (omega arith)))
        (λ h. d (sym (reverse-at a (length a - left) (left - 1) (omega arith)) ∙ h ∙ reverse-at b (length a - left) (left - 1) (omega arith)))))

    pub pairs-all : left ≤ 0 → length a ≡ pairs_compared a b
    unfolding pairs_compared
    pairs-all l =
        let n = length-reverse a in
        rw (eq-eqb (length a) (length b) e)
        (sym n ∙ sym
        (front-all (reverse a) (reverse b) lengths (λ k p. pair k (length a - k - 1) (omega arith) (g.equal (length a - k - 1) (omega arith) (omega arith)))))
