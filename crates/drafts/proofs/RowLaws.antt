-- The rows of a shelf one after the other, and the first that passes a test. Assumes nothing.
use mathlib.Core.Path.{◌≡◌, refl, sym, ap, ap₂, ◌∙◌}
use mathlib.Core.List.{List, [], ◌∷◌}
use mathlib.Core.Bool.{Bool, true, false, ◌&&◌, ◌||◌, cond}
use Prim.Native.Nat.{ℕ, zero, suc, ◌+◌, ◌*◌, ◌≤◌, ◌<◌}
use native.Mathlib.Omega.{arith}
use lib.ListN.{length, get_or, take, drop, drop_of_length-le}
use lib.Seq.{drop-cons}
use lib.Dec.{ltb, leb, leb-suc-suc}
use borrow.Author.Tests.{eq-eqb, ne_eqb, le-leb, lt-leb, le-ltb, lt-ltb}
use Rattle.record.specs.Base.{Str, any, is_text, eqs}
use Rattle.drafts.specs.Shelf.{Row, is_held, is_free, name_of, is_named, good_name}
use Rattle.drafts.specs.Shelving.{row_at, tabulate, rows_of, name_row, first_of, row_for}
use Rattle.drafts.specs.declared.shelved.Shelf.{Shelf}

-- rows ----------------------------------------------------------------------------------------------------------------------

pub listed-long : {A : Type 0} (f : ℕ → A) (k i : ℕ) → length (tabulate f k i) ≡ k
unfolding tabulate
listed-long f zero i = refl
listed-long f (suc k) i = ap suc (listed-long f k (i + 1))

pub listed_at : {A : Type 0} (f : ℕ → A) (k i j : ℕ) (d : A) → j < k → get_or (tabulate f k i) j d ≡ f (i + j)
unfolding tabulate
listed_at f zero i j d h = absurd (omega arith)
listed_at f (suc k) i zero d h = let e : i ≡ i + 0 = omega arith in ap f e
listed_at f (suc k) i (suc j) d h =
    let e : i + 1 + j ≡ i + suc j = omega arith in
    listed_at f k (i + 1) j d (omega arith) ∙ ap f e

module _ (s : Shelf) where
  pub rows_long : length (rows_of s) ≡ 8
  unfolding rows_of
  rows_long = listed-long (row_at s) 8 0

  module _ (i : ℕ) where
    pub rows_at : (d : Row) → i < 8 → get_or (rows_of s) i d ≡ row_at s i
    unfolding rows_of
    rows_at d h = let e : 0 + i ≡ i = omega arith in listed_at (row_at s) 8 0 i d h ∙ ap (row_at s) e

    pub rows_on : i < 8 → drop i (rows_of s) ≡ row_at s i ∷ drop (i + 1) (rows_of s)
    rows_on h =
        let l = rows_long in
        let e : suc i ≡ i + 1 = omega arith in
        drop-cons (rows_of s) i (row_at s i) (omega arith) ∙ ap₂ (λ (x : Row) (k : ℕ). x ∷ drop k (rows_of s)) (rows_at (row_at s i) h) e

    pub rows_end : 8 ≤ i → drop i (rows_of s) ≡ []
    rows_end h = let l = rows_long in drop_of_length-le (rows_of s) {i = i} (omega arith)

-- the first that passes a test ----------------------------------------------------------------------------------------------

module _ (q : Row → Bool) (s : Shelf) where
  -- how far a search has come
  abbrev pub FirstFrom : ℕ → Type 0
  FirstFrom i = (i ≤ 8) × (first_of q (rows_of s) ≡ i + first_of q (drop i (rows_of s)))

  pub first-start : FirstFrom 0
  first-start = (omega arith, omega arith)

  module _ (i : ℕ) (v : FirstFrom i) where
    pub first_on : (b : Bool) → i < 8 → b ≡ q (row_at s i) → b ≡ false → FirstFrom (i + 1)
    unfolding first_of
    first_on b h e f =
        let z : first_of q (drop i (rows_of s)) ≡ suc (first_of q (drop (i + 1) (rows_of s))) = ap (first_of q) (rows_on s i h) ∙ rw (← e, f) in
        let y = v.1 in
        (omega arith, omega arith)

    pub first-here : (b : Bool) → i < 8 → b ≡ q (row_at s i) → b ≡ true → i ≡ first_of q (rows_of s)
    unfolding first_of
    first-here b h e f =
        let z : first_of q (drop i (rows_of s)) ≡ 0 = ap (first_of q) (rows_on s i h) ∙ rw (← e, f) in
        let y = v.1 in
        omega arith

    pub first-none : 8 ≤ i → 8 ≡ first_of q (rows_of s)
    unfolding first_of
    first-none h =
        let z : first_of q (drop i (rows_of s)) ≡ 0 = ap (first_of q) (rows_end s i h) in
        let y = v.1 in
        let x = v.0 in
        omega arith

pub first_any : {A : Type 0} (q : A → Bool) (l : List A) → any q l ≡ ltb (first_of q l) (length l)
unfolding any first_of
first_any q [] = refl
first_any q (x ∷ xs) = go (q x) (first_any q xs)
  where
    go : (t : Bool) → any q xs ≡ ltb (first_of q xs) (length xs) → (t || any q xs) ≡ ltb (cond t 0 (suc (first_of q xs))) (suc (length xs))
    go true e = sym (lt-ltb 0 (suc (length xs)) (omega arith))
    go false e = e ∙ sym (leb-suc-suc (suc (first_of q xs)) (length xs))

-- names ---------------------------------------------------------------------------------------------------------------------

module _ (w n : Str) (k : ℕ) where
  pub named-free : k ≡ 0 → false ≡ is_named n (name_row w k)
  unfolding is_named name_of is_held is_text
  named-free h = rw (eq-eqb k 0 h)

  pub named-long : (k ≡ 0 → ⊥) → 16 < k → false ≡ is_named n (name_row w k)
  unfolding is_named name_of is_held is_text
  named-long g h = rw (ne_eqb k 0 g, lt-leb k 16 h)

  pub named-same : (x : Str) (b : Bool) → (k ≡ 0 → ⊥) → k ≤ 16 → x ≡ take k w → b ≡ eqs x n → b ≡ is_named n (name_row w k)
  unfolding is_named name_of is_held is_text
  named-same x b g h e f = f ∙ rw (ne_eqb k 0 g, le-leb k 16 h, ← e)

pub named-row : (s : Shelf) (n w y : Str) (i : ℕ) (b : Bool) → y ≡ drop (16 * i) s.names → w ≡ take 16 y → b ≡ is_named n (name_row w (get_or s.name_lens i 0)) → b ≡ is_named n (row_at s i)
unfolding is_named name_of is_held
named-row s n w y i b e f h = h ∙ rw (f, e)

module _ (s : Shelf) (i : ℕ) (v : FirstFrom is_free s i) where
  pub free_on : (get_or s.name_lens i 0 ≡ 0 → ⊥) → i < 8 → FirstFrom is_free s (i + 1)
  unfolding is_held
  free_on g h = first_on is_free s i v false h (rw (ne_eqb (get_or s.name_lens i 0) 0 g)) refl

  pub free-here : get_or s.name_lens i 0 ≡ 0 → i < 8 → i ≡ first_of is_free (rows_of s)
  unfolding is_held
  free-here g h = first-here is_free s i v true h (rw (eq-eqb (get_or s.name_lens i 0) 0 g)) refl

module _ (s : Shelf) (n : Str) where
  pub for-none : length n ≡ 0 → 8 ≡ row_for n (rows_of s)
  unfolding row_for good_name
  for-none h = rw h

  pub for-long : 16 < length n → 8 ≡ row_for n (rows_of s)
  unfolding row_for good_name
  for-long h = rw (lt-leb (length n) 16 h) (go (leb 1 (length n)))
    where
      go : (t : Bool) → 8 ≡ cond (t && false) (cond (any (is_named n) (rows_of s)) (first_of (is_named n) (rows_of s)) (first_of is_free (rows_of s))) 8
      go true = refl
      go false = refl

  module _ (g : length n ≡ 0 → ⊥) (h : length n ≤ 16) (a : ℕ) (e : a ≡ first_of (is_named n) (rows_of s)) where
    good : good_name n ≡ true
    unfolding good_name
    good = let k : 1 ≤ length n = omega arith in rw (le-leb 1 (length n) k, le-leb (length n) 16 h)

    own_is : any (is_named n) (rows_of s) ≡ ltb a 8
    own_is = first_any (is_named n) (rows_of s) ∙ ap₂ ltb (sym e) (rows_long s)

    pub for-own : a < 8 → a ≡ row_for n (rows_of s)
    unfolding row_for
    for-own k = rw (good, own_is, lt-ltb a 8 k) e

    pub for-free : (b : ℕ) → 8 ≤ a → b ≡ first_of is_free (rows_of s) → b ≡ row_for n (rows_of s)
    unfolding row_for
    for-free b k f = rw (good, own_is, le-ltb a 8 k) f
