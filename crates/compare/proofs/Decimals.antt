-- Decimal texts of different numbers differ. Assumes nothing.
use mathlib.Core.Path.{◌≡◌, refl, sym, ap, ◌∙◌}
use mathlib.Core.List.{[], ◌∷◌, ◌++◌}
use mathlib.Core.Bool.{Bool, true, false, cond, false≢true}
use Prim.Native.Nat.{ℕ, zero, suc, ◌+◌, ◌-◌, ◌*◌, ◌/◌, ◌%◌, ◌^◌, ◌≤◌, ◌<◌}
use native.Mathlib.Nat.{pow-suc, div-lt_iff_lt-mul}
use native.Mathlib.Omega.{arith}
use lib.Dec.{eqb, ltb}
use borrow.Author.Tests.{eq-eqb, ne_eqb, eqb-true, ltb-false}
use Rattle.record.specs.Base.{Str, eqs, digits, decimal, signed}
use Rattle.record.proofs.Basics.{eqs→eq, eqs-refl}

-- the number of a decimal text, after the number of what is in front of it
abbrev number_from : ℕ → Str → ℕ
number_from n [] = n
number_from n (c ∷ l) = number_from (10 * n + (c - 48)) l

last-digit : (n c : ℕ) (l : Str) → number_from n (l ++ (c ∷ [])) ≡ 10 * number_from n l + (c - 48)
last-digit n c [] = refl
last-digit n c (x ∷ l) = last-digit (10 * n + (x - 48)) c l

digits-back : (k n : ℕ) → n < 10 ^ k → number_from 0 (digits k n) ≡ n
digits-back zero n h = omega arith
digits-back (suc k) n h = go (ltb n 10) refl (digits-back k (n / 10))
  where
    go : (b : Bool) → ltb n 10 ≡ b → (n / 10 < 10 ^ k → number_from 0 (digits k (n / 10)) ≡ n / 10)
        → number_from 0 (cond b ((48 + n) ∷ []) (digits k (n / 10) ++ ((48 + n % 10) ∷ []))) ≡ n
    go true e ih = omega arith
    go false e ih =
        let q = ih ((div-lt_iff_lt-mul {k = 10} {x = n} {y = 10 ^ k} (omega arith)).1 (rw pow-suc at h)) in
        last-digit 0 (48 + n % 10) (digits k (n / 10)) ∙ rw q (omega arith)

-- a decimal text begins with a digit
record Begins (t : Str) : Type 0 where
  first : ℕ
  rest : Str
  whole : t ≡ first ∷ rest
  digit : 48 ≤ first

digits-begin : (k n : ℕ) → Begins (digits (suc k) n)
digits-begin zero n = go (ltb n 10)
  where
    go : (b : Bool) → Begins (cond b ((48 + n) ∷ []) ((48 + n % 10) ∷ []))
    go true = record { first = 48 + n; rest = []; whole = refl; digit = omega arith }
    go false = record { first = 48 + n % 10; rest = []; whole = refl; digit = omega arith }
digits-begin (suc k) n = go (ltb n 10) (digits-begin k (n / 10))
  where
    go : (b : Bool) → Begins (digits (suc k) (n / 10)) → Begins (cond b ((48 + n) ∷ []) (digits (suc k) (n / 10) ++ ((48 + n % 10) ∷ [])))
    go true d = record { first = 48 + n; rest = []; whole = refl; digit = omega arith }
    go false d = record { first = d.first; rest = d.rest ++ ((48 + n % 10) ∷ []); whole = ap (λ (l : Str). l ++ ((48 + n % 10) ∷ [])) d.whole; digit = d.digit }

-- the number of a text with a sign, in two's complement
abbrev signed_from : Str → ℕ
signed_from [] = 0
signed_from (c ∷ l) = cond (eqb c 45) (2 ^ 64 - number_from 0 l) (number_from 0 (c ∷ l))

signed_back : (n : ℕ) → n < 2 ^ 64 → signed_from (signed n) ≡ n
unfolding signed decimal
signed_back n h = go (ltb n (2 ^ 63)) refl
  where
    go : (b : Bool) → ltb n (2 ^ 63) ≡ b → signed_from (cond b (digits 20 n) (45 ∷ digits 20 (2 ^ 64 - n))) ≡ n
    go true e =
        let d = digits-begin 19 n in
        let m = d.digit in
        let q : d.first ≡ 45 → ⊥ = λ w. omega arith in
        ap signed_from d.whole ∙ rw (ne_eqb d.first 45 q) (sym (ap (number_from 0) d.whole) ∙ digits-back 20 n (omega arith))
    go false e = let m = ltb-false n (2 ^ 63) e in rw (digits-back 20 (2 ^ 64 - n) (omega arith)) (omega arith)

-- two numbers of 64 bits have one text just where they are one
pub signed_same : (a b : ℕ) → a < 2 ^ 64 → b < 2 ^ 64 → eqb a b ≡ eqs (signed a) (signed b)
signed_same a b h k = go (eqs (signed a) (signed b)) (eqb a b) refl refl
  where
    go : (t u : Bool) → eqs (signed a) (signed b) ≡ t → eqb a b ≡ u → u ≡ t
    go true u e f = sym f ∙ eq-eqb a b (sym (signed_back a h) ∙ ap signed_from (eqs→eq (signed a) (signed b) e) ∙ signed_back b k)
    go false false e f = refl
    go false true e f = absurd (false≢true (sym e ∙ ap (λ (n : ℕ). eqs (signed a) (signed n)) (sym (eqb-true a b f)) ∙ eqs-refl (signed a)))
