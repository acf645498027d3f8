-- Parts of a slice, and the search for a byte, one step at a time.
use Prim.Native.Nat.{ℕ, zero, suc, ◌+◌, ◌-◌, ◌≤◌, ◌<◌}
use mathlib.Core.Bool.{Bool, true, false, not, cond}
use mathlib.Core.List.{[], ◌∷◌}
use mathlib.Core.Path.{◌≡◌, refl, sym, ap, ◌∙◌}
use native.Mathlib.Numerals.{add-one}
use native.Mathlib.Nat.{add-zero, sub-zero}
use native.Mathlib.Omega.{arith}
use lib.ListN.{length, take, drop, get_or, drop_of_length-le, length-drop}
use lib.Seq.{take_all, take-nil, drop-cons}
use lib.Dec.{eqb, ltb}
use borrow.Author.Tests.{eq-eqb, ne_eqb, eqb-true, ltb-false}
use Rattle.std.specs.Prelude.{Option, Some, None, unwrap_or, position}
use Rattle.std.specs.List.{position_or_len}
use Rattle.record.specs.Base.{Str}
use Rattle.record.specs.Cut.{place_of, before_byte, after_byte}

module _ (s : Str) (n : ℕ) where
  pub upto_all : length s ≤ n → s ≡ take n s
  upto_all h = sym (take_all n s h)

  pub upto-cut : take (n - 0) s ≡ take n s
  upto-cut = rw sub-zero

  pub from_past : length s ≤ n → take (length s - length s) (drop (length s) s) ≡ drop n s
  from_past h = rw (drop_of_length-le s {i = n} h, drop_of_length-le s {i = length s} (omega arith), take-nil)

  pub from-here : take (length s - n) (drop n s) ≡ drop n s
  from-here = take_all (length s - n) (drop n s) (rw length-drop (omega arith))

pub ruleset cut-laws = (upto_all, upto-cut, from_past, from-here)

-- the place of a byte in a text and in its front
pub place-most : (b : ℕ) (l : Str) → place_of b l ≤ length l
unfolding place_of
place-most b [] = omega arith
place-most b (a ∷ l) = go (eqb a b) (place-most b l)
  where
    go : (t : Bool) → place_of b l ≤ length l → cond t 0 (suc (place_of b l)) ≤ suc (length l)
    go true h = omega arith
    go false h = omega arith

module _ (s : Str) (b i : ℕ) where
  pub place_here : i < length s → get_or s i 0 ≡ b → i + place_of b (drop i s) ≡ i
  unfolding place_of
  place_here h e = rw (drop-cons s i 0, eq-eqb (get_or s i 0) b e, add-zero)

  pub place-later : i < length s → (get_or s i 0 ≡ b → ⊥) → i + place_of b (drop i s) ≡ i + 1 + place_of b (drop (i + 1) s)
  unfolding place_of
  place-later h e = rw (add-one, drop-cons s i 0, ne_eqb (get_or s i 0) b e) (omega arith)

  pub place_none : length s ≤ i → i + place_of b (drop i s) ≡ i
  unfolding place_of
  place_none h = rw (drop_of_length-le s, add-zero)

-- the place that the code finds
place-first : (b : ℕ) (s : Str) → position_or_len (λ x. eqb x b) s ≡ place_of b s
unfolding place_of
place-first b [] = refl
place-first b (a ∷ s) = go (eqb a b) (place-first b s)
  where
    go : (t : Bool) → position_or_len (λ x. eqb x b) s ≡ place_of b s → cond (not t) (1 + position_or_len (λ x. eqb x b) s) 0 ≡ cond t 0 (suc (place_of b s))
    go true e = refl
    go false e = omega arith

pub place_found : (b : ℕ) (s : Str) (o : Option ℕ) (r : ℕ) → o ≡ position (λ x. eqb x b) s → r ≡ unwrap_or o (length s) → r ≡ place_of b s
place_found b s o r e f = f ∙ ap (λ x. unwrap_or x (length s)) e ∙ go (ltb p (length s)) refl
  where
    p : ℕ
    p = position_or_len (λ x. eqb x b) s

    go : (t : Bool) → ltb p (length s) ≡ t → unwrap_or (cond t (Some p) None) (length s) ≡ place_of b s
    go true h = place-first b s
    go false h = let m = place-most b s in let l = ltb-false p (length s) h in let q = place-first b s in omega arith

pub place-there : (b : ℕ) (l : Str) → place_of b l < length l → get_or l (place_of b l) 0 ≡ b
unfolding place_of
place-there b [] h = absurd (omega arith)
place-there b (a ∷ l) h = go (eqb a b) refl h (place-there b l)
  where
    go : (t : Bool) → eqb a b ≡ t → cond t 0 (suc (place_of b l)) < suc (length l) → (place_of b l < length l → get_or l (place_of b l) 0 ≡ b) → get_or (a ∷ l) (cond t 0 (suc (place_of b l))) 0 ≡ b
    go true e h r = eqb-true a b e
    go false e h r = r (omega arith)

pub place-front : (b : ℕ) (l : Str) → place_of b (take (place_of b l) l) ≡ place_of b l
unfolding place_of
place-front b [] = refl
place-front b (a ∷ l) = go (eqb a b) refl (place-front b l)
  where
    go : (t : Bool) → eqb a b ≡ t → place_of b (take (place_of b l) l) ≡ place_of b l → place_of b (take (cond t 0 (suc (place_of b l))) (a ∷ l)) ≡ cond t 0 (suc (place_of b l))
    go true e h = refl
    go false e h = rw e (ap suc h)

pub place-whole : (b n : ℕ) (l : Str) → n ≤ length l → place_of b (take n l) ≡ n → (n < length l → get_or l n 0 ≡ b) → place_of b l ≡ n
unfolding place_of
place-whole b zero [] h e f = refl
place-whole b (suc n) [] h e f = absurd (omega arith)
place-whole b zero (a ∷ l) h e f = rw (eq-eqb a b (f (omega arith)))
place-whole b (suc n) (a ∷ l) h e f = go (eqb a b) e (place-whole b n l (omega arith))
  where
    go : (t : Bool) → cond t 0 (suc (place_of b (take n l))) ≡ suc n → (place_of b (take n l) ≡ n → (n < length l → get_or l n 0 ≡ b) → place_of b l ≡ n) → cond t 0 (suc (place_of b l)) ≡ suc n
    go true q r = absurd (omega arith)
    go false q r = ap suc (r (omega arith) (λ k. f (omega arith)))

module _ (s : Str) (b p : ℕ) (r : Str) (e : p ≡ place_of b s) where
  pub before-is : r ≡ take p s → r ≡ before_byte b s
  unfolding before_byte
  before-is h = rw (← e) h

  pub after_is : r ≡ drop (p + 1) s → r ≡ after_byte b s
  unfolding after_byte
  after_is h = rw (← e) (rw add-one at h)

  pub after_none : length s ≤ p → r ≡ drop p s → r ≡ after_byte b s
  unfolding after_byte
  after_none l h = rw (← e, drop_of_length-le s {i = suc p} (omega arith)) (h ∙ drop_of_length-le s l)
