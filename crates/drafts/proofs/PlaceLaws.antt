-- The places of a shelf judged. Assumes nothing.
use mathlib.Core.Path.{◌≡◌, refl, sym, ap, ◌∙◌}
use mathlib.Core.List.{List, [], ◌∷◌}
use mathlib.Core.Bool.{Bool, true, false, ◌&&◌, ◌||◌, cond}
use Prim.Native.Nat.{ℕ, ◌+◌, ◌-◌, ◌≤◌, ◌<◌}
use native.Mathlib.Omega.{arith}
use lib.ListN.{get_or, drop}
use lib.Dec.{ltb}
use borrow.Author.Tests.{eq-eqb, ne_eqb, le-leb, lt-leb, le-ltb, lt-ltb, ltb-true, ltb-false}
use Rattle.record.specs.Base.{any, filter_b}
use Rattle.drafts.specs.Shelf.{Row, is_held, held_rows, outside, meets, overlapping, forged, in_place}
use Rattle.drafts.specs.Shelving.{row_at, rows_of, place_row}
use Rattle.drafts.specs.declared.shelved.Shelf.{Shelf}
use Rattle.drafts.proofs.RowLaws.{rows_on, rows_end}

-- one place -----------------------------------------------------------------------------------------------------------------

module _ (at start size : ℕ) where
  pub ends-after : start ≤ at → ltb (at - start) size ≡ ltb at (start + size)
  ends-after h = go (ltb (at - start) size) refl
    where
      go : (t : Bool) → ltb (at - start) size ≡ t → t ≡ ltb at (start + size)
      go true e = let k = ltb-true (at - start) size e in sym (lt-ltb at (start + size) (omega arith))
      go false e = let k = ltb-false (at - start) size e in sym (le-ltb at (start + size) (omega arith))

  pub not_in : at < start → false ≡ in_place at (place_row start size)
  unfolding in_place
  not_in h = rw (lt-leb start at h)

  pub is-in : start ≤ at → ltb (at - start) size ≡ in_place at (place_row start size)
  unfolding in_place
  is-in h = rw (le-leb start at h) (ends-after h)

module _ (start size other len : ℕ) where
  pub meet-none : size ≡ 0 → false ≡ meets (place_row start size) (place_row other len)
  unfolding meets
  meet-none h = rw h (sym (go (ltb start (other + len)) (ltb other (start + 0)) (ltb 0 len)))
    where
      go : (x y z : Bool) → (x && y && false && z) ≡ false
      go true true z = refl
      go true false z = refl
      go false y z = refl

  pub meet-nothing : len ≡ 0 → false ≡ meets (place_row start size) (place_row other len)
  unfolding meets
  meet-nothing h = rw h (sym (go (ltb start (other + 0)) (ltb other (start + size)) (ltb 0 size)))
    where
      go : (x y z : Bool) → (x && y && z && false) ≡ false
      go true true true = refl
      go true true false = refl
      go true false z = refl
      go false y z = refl

  module _ (a : Bool) (e : a ≡ ltb start (other + len)) where
    pub meet-first : a ≡ false → false ≡ meets (place_row start size) (place_row other len)
    unfolding meets
    meet-first f = rw (← e, f)

    pub meet-both : (b : Bool) → (size ≡ 0 → ⊥) → (len ≡ 0 → ⊥) → a ≡ true → b ≡ ltb other (start + size) → b ≡ meets (place_row start size) (place_row other len)
    unfolding meets
    meet-both b g h f k =
        let y : 0 < size = omega arith in
        let z : 0 < len = omega arith in
        k ∙ rw (← e, f, lt-ltb 0 size y, lt-ltb 0 len z) (go (ltb other (start + size)))
      where
        go : (t : Bool) → t ≡ (t && true && true)
        go true = refl
        go false = refl

-- one row -------------------------------------------------------------------------------------------------------------------

module _ (s : Shelf) (i : ℕ) where
  pub row-free : (t : Bool) → get_or s.name_lens i 0 ≡ 0 → false ≡ (is_held (row_at s i) && t)
  unfolding is_held
  row-free t h = rw (eq-eqb (get_or s.name_lens i 0) 0 h)

  row-held : (get_or s.name_lens i 0 ≡ 0 → ⊥) → is_held (row_at s i) ≡ true
  unfolding is_held
  row-held h = rw (ne_eqb (get_or s.name_lens i 0) 0 h)

  pub row-outside : (room : ℕ) (b : Bool) → (get_or s.name_lens i 0 ≡ 0 → ⊥) → b ≡ ltb room (get_or s.starts i 0 + get_or s.lens i 0)
      → b ≡ (is_held (row_at s i) && outside room (row_at s i))
  unfolding outside
  row-outside room b h e = e ∙ rw (row-held h)

  pub row-meets : (start size : ℕ) (b : Bool) → (get_or s.name_lens i 0 ≡ 0 → ⊥) → b ≡ meets (place_row start size) (place_row (get_or s.starts i 0) (get_or s.lens i 0))
      → b ≡ (is_held (row_at s i) && meets (place_row start size) (row_at s i))
  unfolding meets
  row-meets start size b h e = e ∙ rw (row-held h)

  same_meets : (l : List Row) → any (meets (place_row (get_or s.starts i 0) (get_or s.lens i 0))) l ≡ any (meets (row_at s i)) l
  unfolding any meets
  same_meets [] = refl
  same_meets (r ∷ l) = ap (λ (t : Bool). meets (row_at s i) r || t) (same_meets l)

  pub row-later : (b : Bool) → (get_or s.name_lens i 0 ≡ 0 → ⊥) → b ≡ any (meets (place_row (get_or s.starts i 0) (get_or s.lens i 0))) (held_rows (drop (i + 1) (rows_of s)))
      → b ≡ (is_held (row_at s i) && any (meets (row_at s i)) (held_rows (drop (i + 1) (rows_of s))))
  row-later b h e = e ∙ same_meets (held_rows (drop (i + 1) (rows_of s))) ∙ rw (row-held h)

-- all rows ------------------------------------------------------------------------------------------------------------------

held_on : (q : Row → Bool) (r : Row) (l : List Row) → any q (held_rows (r ∷ l)) ≡ ((is_held r && q r) || any q (held_rows l))
unfolding any held_rows filter_b
held_on q r l = go (is_held r)
  where
    go : (t : Bool) → any q (cond t (r ∷ filter_b is_held l) (filter_b is_held l)) ≡ ((t && q r) || any q (filter_b is_held l))
    go true = refl
    go false = refl

module _ (q : Row → Bool) (s : Shelf) (x : Bool) where
  module _ (i : ℕ) (v : x ≡ any q (held_rows (drop i (rows_of s)))) where
    pub any-on : (b : Bool) → i < 8 → b ≡ (is_held (row_at s i) && q (row_at s i)) → b ≡ false → x ≡ any q (held_rows (drop (i + 1) (rows_of s)))
    any-on b h e f = v ∙ ap (λ (l : List Row). any q (held_rows l)) (rows_on s i h) ∙ held_on q (row_at s i) (drop (i + 1) (rows_of s)) ∙ rw (← e, f)

    pub any_here : (b : Bool) → i < 8 → b ≡ (is_held (row_at s i) && q (row_at s i)) → b ≡ true → true ≡ x
    any_here b h e f = sym (v ∙ ap (λ (l : List Row). any q (held_rows l)) (rows_on s i h) ∙ held_on q (row_at s i) (drop (i + 1) (rows_of s)) ∙ rw (← e, f))

    pub any-end : 8 ≤ i → false ≡ x
    unfolding any held_rows filter_b
    any-end h = sym (v ∙ ap (λ (l : List Row). any q (held_rows l)) (rows_end s i h))

overlap-on : (r : Row) (l : List Row) → overlapping (held_rows (r ∷ l)) ≡ ((is_held r && any (meets r) (held_rows l)) || overlapping (held_rows l))
unfolding overlapping held_rows filter_b
overlap-on r l = go (is_held r)
  where
    go : (t : Bool) → overlapping (cond t (r ∷ filter_b is_held l) (filter_b is_held l)) ≡ ((t && any (meets r) (filter_b is_held l)) || overlapping (filter_b is_held l))
    go true = refl
    go false = refl

module _ (s : Shelf) (x : Bool) (i : ℕ) (v : x ≡ overlapping (held_rows (drop i (rows_of s)))) where
  pub pairs-on : (b : Bool) → i < 8 → b ≡ (is_held (row_at s i) && any (meets (row_at s i)) (held_rows (drop (i + 1) (rows_of s)))) → b ≡ false
      → x ≡ overlapping (held_rows (drop (i + 1) (rows_of s)))
  pairs-on b h e f = v ∙ ap (λ (l : List Row). overlapping (held_rows l)) (rows_on s i h) ∙ overlap-on (row_at s i) (drop (i + 1) (rows_of s)) ∙ rw (← e, f)

  pub pairs-here : (b : Bool) → i < 8 → b ≡ (is_held (row_at s i) && any (meets (row_at s i)) (held_rows (drop (i + 1) (rows_of s)))) → b ≡ true → true ≡ x
  pairs-here b h e f = sym (v ∙ ap (λ (l : List Row). overlapping (held_rows l)) (rows_on s i h) ∙ overlap-on (row_at s i) (drop (i + 1) (rows_of s)) ∙ rw (← e, f))

  pub pairs_end : 8 ≤ i → false ≡ x
  unfolding overlapping held_rows filter_b
  pairs_end h = sym (v ∙ ap (λ (l : List Row). overlapping (held_rows l)) (rows_end s i h))

module _ (s : Shelf) (room : ℕ) (a : Bool) (e : a ≡ any (outside room) (held_rows (rows_of s))) where
  pub forged-outside : a ≡ true → true ≡ forged room (rows_of s)
  unfolding forged
  forged-outside f = rw (← e, f)

  pub forged-over : (b : Bool) → a ≡ false → b ≡ overlapping (held_rows (rows_of s)) → b ≡ forged room (rows_of s)
  unfolding forged
  forged-over b f g = g ∙ rw (← e, f)
