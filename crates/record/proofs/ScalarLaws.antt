-- The table of scalar words, one row at a time.
use Prim.Native.Nat.{ℕ, zero, suc, ◌+◌, ◌-◌, ◌≤◌, ◌<◌}
use mathlib.Core.List.{List, [], ◌∷◌, ◌++◌}
use mathlib.Core.Bool.{Bool, true, false, ◌||◌, or-true, false≢true}
use mathlib.Core.Logic.{◌⊎◌, inl, inr}
use mathlib.Core.Path.{◌≡◌, refl, sym, ap, ap₂, ◌∙◌}
use native.Mathlib.Omega.{arith}
use lib.Dec.{eqb}
use lib.ListN.{length, take, drop, get_or, length-append, get_or-append}
use lib.Seq.{drop-drop, drop_at, get_or-take, get_or-drop, length-take-le, take-take}
use borrow.Author.Tests.{le-leb, lt-leb, eq-eqb, eqb-true, eqb-false}
use Rattle.std.proofs.lemmas.List.{take-append-le}
use Rattle.texts.proofs.TextLaws.{below_or, eqs→eq, eqs-refl}
use Rattle.record.specs.Base.{Str, bytes, eqs, find}
use Rattle.record.specs.Cut.{place_of, before_byte}
use Rattle.record.specs.Scalars.{Scalar, before_zero, scalar_at, scalars_from, scalars_at, scalars_of, scalar_in, prim_size, built_in, built_in_rows}
use Rattle.record.proofs.CutLaws.{place-most, place-there, place-front, place-whole}

-- a row against a word, by lengths and bytes
module _ (s w : Str) (room : 9 ≤ length s) where
  abbrev row : Str
  row = take 8 s

  eight : length row ≡ 8
  eight = length-take-le 8 s (omega arith)

  cell : (i : ℕ) → i < 8 → get_or row i 0 ≡ get_or s i 0
  cell i l = get_or-take 8 s i 0 l

  -- a word that is the row's ends where the row's does
  ends : before_zero row ≡ w → place_of 0 row ≡ length w
  unfolding before_zero before_byte
  ends e = let m = place-most 0 row in sym (length-take-le (place_of 0 row) row m) ∙ ap length e

  -- and has no 0 in it
  counted : before_zero row ≡ w → place_of 0 w ≡ length w
  unfolding before_zero before_byte
  counted e = ap (λ (l : Str). place_of 0 l) (sym e) ∙ place-front 0 row ∙ ends e

  whole : w ≡ take (length w) row → place_of 0 row ≡ length w → before_zero row ≡ w
  unfolding before_zero before_byte
  whole e h = ap (λ (k : ℕ). take k row) h ∙ sym e

  not-row : (before_zero row ≡ w → ⊥) → eqs (before_zero row) w ≡ false
  not-row d = go (eqs (before_zero row) w) refl
    where
      go : (t : Bool) → eqs (before_zero row) w ≡ t → t ≡ false
      go true e = absurd (d (eqs→eq (before_zero row) w e))
      go false e = refl

  pub row-short : 8 < length w → false ≡ eqs (before_zero row) w
  row-short h = sym (not-row (λ e. let m = place-most 0 row in let n = eight in let p = ends e in omega arith))

  module _ (q : length w ≤ 8) where
    after-row : before_zero row ≡ w → (eqb (length w) 8 || eqb (get_or s (length w) 0) 0) ≡ true
    after-row e = go (below_or (length w) 8)
      where
        go : (length w < 8) ⊎ (8 ≤ length w) → (eqb (length w) 8 || eqb (get_or s (length w) 0) 0) ≡ true
        go (inl l) =
            let p = ends e in
            let n = eight in
            let z = place-there 0 row (omega arith) in
            rw (eq-eqb (get_or s (length w) 0) 0 (sym (cell (length w) l) ∙ ap (λ (k : ℕ). get_or row k 0) (sym p) ∙ z)) (or-true (eqb (length w) 8))
        go (inr l) = rw (eq-eqb (length w) 8 (let z : length w ≡ 8 = omega arith in z))

    pub row-longer : (t : Bool) → t ≡ (eqb (length w) 8 || eqb (get_or s (length w) 0) 0) → t ≡ false → false ≡ eqs (before_zero row) w
    row-longer t h d = sym (not-row (λ e. false≢true (sym d ∙ h ∙ after-row e)))

    -- the bytes of the row that the word is held to
    front : take (length w) s ≡ take (length w) row
    front = sym (take-take (length w) 8 s q)

    pub row-differs : (t : Bool) → t ≡ eqs (take (length w) s) w → t ≡ false → false ≡ eqs (before_zero row) w
    unfolding before_zero before_byte
    row-differs t h d =
        sym
        (not-row
        (λ e. false≢true (sym d ∙ h ∙ ap (λ (x : Str). eqs x w) (front ∙ ap (λ (k : ℕ). take k row) (sym (ends e)) ∙ e) ∙ eqs-refl w)))

    pub row_same : (t u : Bool) (k : ℕ) → t ≡ (eqb (length w) 8 || eqb (get_or s (length w) 0) 0) → t ≡ true → u ≡ eqs (take (length w) s) w → u ≡ true
        → k ≡ place_of 0 w → eqb k (length w) ≡ eqs (before_zero row) w
    row_same t u k h d g f e = go (eqb k (length w)) refl
      where
        is : w ≡ take (length w) row
        is = sym (sym front ∙ eqs→eq (take (length w) s) w (sym g ∙ f))

        after : length w < length row → get_or row (length w) 0 ≡ 0
        after l = let n = eight in cell (length w) (omega arith) ∙ pick (eqb (length w) 8) refl (sym h ∙ d)
          where
            pick : (v : Bool) → eqb (length w) 8 ≡ v → (v || eqb (get_or s (length w) 0) 0) ≡ true → get_or s (length w) 0 ≡ 0
            pick true x y = absurd (let m = eqb-true (length w) 8 x in let n = eight in omega arith)
            pick false x y = eqb-true (get_or s (length w) 0) 0 y

        go : (v : Bool) → eqb k (length w) ≡ v → v ≡ eqs (before_zero row) w
        go true x =
            let n = eight in
            let p : place_of 0 (take (length w) row) ≡ length w = ap (λ (l : Str). place_of 0 l) (sym is) ∙ sym e ∙ eqb-true k (length w) x in
            sym (ap (λ (l : Str). eqs l w) (whole is (place-whole 0 (length w) row (omega arith) p after)) ∙ eqs-refl w)
        go false x = sym (not-row (λ y. eqb-false k (length w) x (e ∙ counted y)))

-- more rows than bytes change nothing
enough : (s : Str) (n m at : ℕ) → length s ≤ n + at → length s ≤ m + at → scalars_from n s at ≡ scalars_from m s at
unfolding scalars_from
enough s zero zero at p q = refl
enough s zero (suc m) at p q = rw (lt-leb 9 (length s - at) (omega arith))
enough s (suc n) zero at p q = rw (lt-leb 9 (length s - at) (omega arith))
enough s (suc n) (suc m) at p q = rw (enough s n m (at + 9) (omega arith) (omega arith))

module _ (s : Str) (at : ℕ) where
  pub scalars-next : 9 ≤ length s - at → scalars_at s at ≡ scalar_at s at ∷ scalars_at s (at + 9)
  unfolding scalars_at scalars_from
  scalars-next h = go (length s - at) (omega arith)
    where
      go : (n : ℕ) → length s ≤ n + at → scalars_from n s at ≡ scalar_at s at ∷ scalars_at s (at + 9)
      go zero p = absurd (omega arith)
      go (suc n) p = rw (le-leb 9 (length s - at) h) (ap (λ (l : List Scalar). scalar_at s at ∷ l) (enough s n (length s - (at + 9)) (at + 9) (omega arith) (omega arith)))

  pub scalars-end : length s - at < 9 → scalars_at s at ≡ []
  unfolding scalars_at scalars_from
  scalars-end h = go (length s - at)
    where
      go : (n : ℕ) → scalars_from n s at ≡ []
      go zero = refl
      go (suc n) = rw (lt-leb 9 (length s - at) h)

-- a row in front of others
module _ (r t : Str) (n : length r ≡ 9) where
  past-row : (at : ℕ) → drop (at + 9) (r ++ t) ≡ drop at t
  past-row at =
      ap (λ (k : ℕ). drop k (r ++ t)) (let z : at + 9 ≡ 9 + at = omega arith in z) ∙ sym (drop-drop at 9 (r ++ t)) ∙ ap (drop at) (drop_at r t 9 n)

  scalar-past : (at : ℕ) → scalar_at (r ++ t) (at + 9) ≡ scalar_at t at
  unfolding scalar_at
  scalar-past at =
      let e = past-row at in
      let f : get_or (r ++ t) (at + 9 + 8) 0 ≡ get_or t (at + 8) 0
      = sym (get_or-drop (at + 9) (r ++ t) 8 0) ∙ ap (λ (y : Str). get_or y 8 0) e ∙ get_or-drop at t 8 0 in
      ap₂ (λ (x : Str) (k : ℕ). record { word = before_zero (take 8 x); size = k }) e f

  shifted : (m at : ℕ) → scalars_from m (r ++ t) (at + 9) ≡ scalars_from m t at
  unfolding scalars_from
  shifted zero at = refl
  shifted (suc m) at =
      let l = length-append r t in
      let z : length (r ++ t) - (at + 9) ≡ length t - at = omega arith in
      rw (z, scalar-past at, shifted m (at + 9))

  pub scalars_split : scalars_of (r ++ t) ≡ record { word = before_zero (take 8 r); size = get_or r 8 0 } ∷ scalars_of t
  unfolding scalars_of scalars_at scalar_at
  scalars_split =
      let l = length-append r t in
      let z : length (r ++ t) - 9 ≡ length t - 0 = omega arith in
      scalars-next (r ++ t) 0 (omega arith)
      ∙ ap₂ ◌∷◌
      (ap₂ (λ (x : Str) (k : ℕ). record { word = before_zero x; size = k }) (take-append-le 8 r t (omega arith)) (get_or-append r t 0 8 (omega arith)))
      (shifted (length (r ++ t) - 9) 0 ∙ ap (λ (m : ℕ). scalars_from m t 0) z)

-- the table by its first row and the others
module _ (s r t w : Str) (e : s ≡ r ++ t) (n : length r ≡ 9) where
  pub prim-here : (b : Bool) (z : ℕ) → b ≡ eqs (before_zero (take 8 r)) w → b ≡ true → z ≡ get_or r 8 0 → prim_size (scalars_of s) w ≡ z
  unfolding prim_size scalar_in find
  prim-here b z q h m = rw (e, scalars_split r t n, ← q, h, m)

  pub prim-later : (b : Bool) → b ≡ eqs (before_zero (take 8 r)) w → b ≡ false → prim_size (scalars_of s) w ≡ prim_size (scalars_of t) w
  unfolding prim_size scalar_in find
  prim-later b q h = rw (e, scalars_split r t n, ← q, h)

pub prim-end : (s w : Str) → length s < 9 → prim_size (scalars_of s) w ≡ 0
unfolding prim_size scalar_in find scalars_of
prim-end s w h = rw (scalars-end s 0 (omega arith))

-- the table of the built-in words is read as they are
pub built_in-rows : scalars_of built_in_rows ≡ built_in
unfolding scalars_of scalars_at scalars_from scalar_at before_zero before_byte place_of bytes built_in built_in_rows
built_in-rows = refl
