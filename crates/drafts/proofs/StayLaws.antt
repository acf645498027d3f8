-- The places of the code and the rows of the definition: the places that stay when a row gives way are those of the definition. Assumes nothing.
use mathlib.Core.Path.{◌≡◌, refl, sym, ap, ap₂, ◌∙◌}
use mathlib.Core.List.{List, [], ◌∷◌, ◌++◌, map}
use mathlib.Core.Bool.{Bool, true, false, ◌&&◌, ◌||◌, not, cond, false≢true}
use Prim.Native.Nat.{ℕ, suc, ◌+◌, ◌-◌, ◌≤◌, ◌<◌}
use native.Mathlib.Omega.{arith}
use lib.ListN.{length, take, drop, set, length-append, length-drop, take-append-drop}
use lib.Seq.{length-take-le}
use lib.Dec.{ltb, leb}
use borrow.Author.Tests.{lt-ltb, le-ltb, ltb-true, ltb-false, leb-true}
use Rattle.record.specs.Base.{Str, any, filter_b}
use Rattle.record.proofs.Basics.{any_some}
use Rattle.drafts.specs.Packing.{kept, kept_before}
use Rattle.drafts.specs.Shelf.{Row, is_held, is_free, is_named, good_name, held_rows, forged, free_row, put_first, others, in_place, staying, closed}
use Rattle.drafts.specs.Shelving.{first_of, row_for, held_size, covering, bytes_before, all_before, Spaced, least}
use Rattle.drafts.proofs.Pools.{kept_append, kept-all}
use Rattle.drafts.proofs.Arrays.{zeros, zeros-long}
use Rattle.drafts.proofs.ShelfPlaces.{Pairwise, pairs-fewer, forged-pairs, free-not-held}
use Rattle.drafts.proofs.ShelfRoom.{kept-none, kept-both, in-here, in-before, in_after, no_byte}
use Rattle.drafts.proofs.RowLaws.{first_any}
use Rattle.drafts.proofs.ClosingLaws.{kept-few}

-- which row a name is set in ------------------------------------------------------------------------------------------------

pub data RowIs (n : Str) (rows : List Row) (row : ℕ) : Type 0 where
  own : any (is_named n) rows ≡ true → row ≡ first_of (is_named n) rows → RowIs n rows row
  new : any (is_named n) rows ≡ false → any is_free rows ≡ true → row ≡ first_of is_free rows → RowIs n rows row

module _ (n : Str) (rows : List Row) (row : ℕ) (l : length rows ≡ 8) (e : row ≡ row_for n rows) (h : row < 8) where
  pub row-good : good_name n ≡ true
  unfolding row_for
  row-good = go (good_name n) e
    where
      go : (t : Bool) → row ≡ cond t (cond (any (is_named n) rows) (first_of (is_named n) rows) (first_of is_free rows)) 8 → t ≡ true
      go true e = refl
      go false e = absurd (omega arith)

  pub row_is : RowIs n rows row
  unfolding row_for
  row_is = go (any (is_named n) rows) refl (e ∙ rw row-good)
    where
      free : row ≡ first_of is_free rows → any is_free rows ≡ true
      free q = first_any is_free rows ∙ lt-ltb (first_of is_free rows) (length rows) (omega arith)

      go : (t : Bool) → any (is_named n) rows ≡ t → row ≡ cond t (first_of (is_named n) rows) (first_of is_free rows) → RowIs n rows row
      go true a q = own a q
      go false a q = new a (free q) q

-- places as two lists -------------------------------------------------------------------------------------------------------

abbrev pub start_of : Row → ℕ
start_of r = r.start

no_place : (i a : ℕ) → (leb a i && ltb i (a + 0)) ≡ false
no_place i a = go (leb a i) refl
  where
    go : (t : Bool) → leb a i ≡ t → (t && ltb i (a + 0)) ≡ false
    go true e = le-ltb i (a + 0) (let k = leb-true a i e in omega arith)
    go false e = refl

module _ (i : ℕ) where
  size_in : (r : Row) (t : Bool) → is_held r ≡ t → (leb r.start i && ltb i (r.start + held_size r)) ≡ cond t (in_place i r) false
  unfolding held_size in_place
  size_in r true e = rw e
  size_in r false e = rw e (no_place i r.start)

  head_in : (r : Row) (l : List Row) → ((leb r.start i && ltb i (r.start + held_size r)) || any (in_place i) (held_rows l)) ≡ any (in_place i) (held_rows (r ∷ l))
  unfolding held_rows filter_b any
  head_in r l = go (is_held r) refl
    where
      go : (t : Bool) → is_held r ≡ t → ((leb r.start i && ltb i (r.start + held_size r)) || any (in_place i) (filter_b is_held l)) ≡ any (in_place i) (cond t (r ∷ filter_b is_held l) (filter_b is_held l))
      go true e = rw (size_in r true e)
      go false e = rw (size_in r false e)

  covers-held : (rows : List Row) → covering (map start_of rows) (map held_size rows) i ≡ any (in_place i) (held_rows rows)
  unfolding covering held_rows filter_b any
  covers-held [] = refl
  covers-held (r ∷ rows) = ap (λ (t : Bool). (leb r.start i && ltb i (r.start + held_size r)) || t) (covers-held rows) ∙ head_in r rows

  covers-but : (q : Row → Bool) (rows : List Row) → any q rows ≡ true
      → covering (map start_of rows) (set (map held_size rows) (first_of q rows) 0) i ≡ any (in_place i) (held_rows (put_first q free_row rows))
  unfolding covering first_of put_first any held_rows filter_b
  covers-but q [] h = absurd (false≢true h)
  covers-but q (r ∷ rows) h = go (q r) h (covers-but q rows)
    where
      free-first : any (in_place i) (held_rows rows) ≡ any (in_place i) (held_rows (free_row ∷ rows))
      free-first = rw free-not-held

      go : (t : Bool) → (t || any q rows) ≡ true → (any q rows ≡ true → covering (map start_of rows) (set (map held_size rows) (first_of q rows) 0) i ≡ any (in_place i) (held_rows (put_first q free_row rows)))
          → covering (r.start ∷ map start_of rows) (set (held_size r ∷ map held_size rows) (cond t 0 (suc (first_of q rows))) 0) i
          ≡ any (in_place i) (held_rows (cond t (free_row ∷ rows) (r ∷ put_first q free_row rows)))
      go true h ih = ap₂ ◌||◌ (no_place i r.start) (covers-held rows) ∙ free-first
      go false h ih = ap (λ (t : Bool). (leb r.start i && ltb i (r.start + held_size r)) || t) (ih h) ∙ head_in r (put_first q free_row rows)

-- a free row that gives way, and a name that no row has, leave the held rows as they are
free-gives : (rows : List Row) → held_rows (put_first is_free free_row rows) ≡ held_rows rows
unfolding held_rows filter_b put_first
free-gives [] = refl
free-gives (r ∷ rows) = go (is_held r) refl (free-gives rows)
  where
    go : (t : Bool) → is_held r ≡ t → filter_b is_held (put_first is_free free_row rows) ≡ filter_b is_held rows
        → filter_b is_held (cond (not t) (free_row ∷ rows) (r ∷ put_first is_free free_row rows)) ≡ cond t (r ∷ filter_b is_held rows) (filter_b is_held rows)
    go true e ih = rw e (ap (λ (l : List Row). r ∷ l) ih)
    go false e ih = rw free-not-held

none-gives : (q : Row → Bool) (rows : List Row) → any q rows ≡ false → put_first q free_row rows ≡ rows
unfolding put_first any
none-gives q [] h = refl
none-gives q (r ∷ rows) h = go (q r) h (none-gives q rows)
  where
    go : (t : Bool) → (t || any q rows) ≡ false → (any q rows ≡ false → put_first q free_row rows ≡ rows) → cond t (free_row ∷ rows) (r ∷ put_first q free_row rows) ≡ r ∷ rows
    go true h ih = absurd (false≢true (sym h))
    go false h ih = ap (λ (l : List Row). r ∷ l) (ih h)

module _ (n : Str) (rows : List Row) where
  same-others : any (is_named n) rows ≡ false → held_rows (put_first is_free free_row rows) ≡ others n rows
  unfolding others
  same-others h = free-gives rows ∙ ap held_rows (sym (none-gives (is_named n) rows h))

  pub covers-stay : (row : ℕ) → RowIs n rows row → (i : ℕ) → covering (map start_of rows) (set (map held_size rows) row 0) i ≡ staying n rows i
  unfolding staying others
  covers-stay row (own a e) i = ap (λ (k : ℕ). covering (map start_of rows) (set (map held_size rows) k 0) i) e ∙ covers-but i (is_named n) rows a
  covers-stay row (new a f e) i =
      ap (λ (k : ℕ). covering (map start_of rows) (set (map held_size rows) k 0) i) e ∙ covers-but i is_free rows f ∙ ap (any (in_place i)) (same-others a)

-- how many bytes stand before an end ----------------------------------------------------------------------------------------

-- the bytes of all places of a list of rows before an end
unfoldable pub sum_before : List Row → ℕ → ℕ
sum_before [] end = 0
sum_before (r ∷ rows) end = bytes_before end r.start r.size + sum_before rows end

module _ (end : ℕ) where
  none_before : (a : ℕ) → bytes_before end a 0 ≡ 0
  unfolding bytes_before
  none_before a = go (ltb end a)
    where
      go : (t : Bool) → cond t 0 (cond (ltb (end - a) 0) (end - a) 0) ≡ 0
      go true = refl
      go false = rw (le-ltb (end - a) 0 (omega arith))

  head-before : (r : Row) (l : List Row) → bytes_before end r.start (held_size r) + sum_before (held_rows l) end ≡ sum_before (held_rows (r ∷ l)) end
  unfolding held_rows filter_b held_size sum_before
  head-before r l = go (is_held r)
    where
      go : (t : Bool) → bytes_before end r.start (cond t r.size 0) + sum_before (filter_b is_held l) end ≡ sum_before (cond t (r ∷ filter_b is_held l) (filter_b is_held l)) end
      go true = refl
      go false = let z = none_before r.start in omega arith

  before-held : (rows : List Row) → all_before (map start_of rows) (map held_size rows) end ≡ sum_before (held_rows rows) end
  unfolding all_before held_rows filter_b sum_before
  before-held [] = refl
  before-held (r ∷ rows) = ap (λ (t : ℕ). bytes_before end r.start (held_size r) + t) (before-held rows) ∙ head-before r rows

  before-but : (q : Row → Bool) (rows : List Row) → any q rows ≡ true
      → all_before (map start_of rows) (set (map held_size rows) (first_of q rows) 0) end ≡ sum_before (held_rows (put_first q free_row rows)) end
  unfolding all_before first_of put_first any held_rows filter_b
  before-but q [] h = absurd (false≢true h)
  before-but q (r ∷ rows) h = go (q r) h (before-but q rows)
    where
      free-first : sum_before (held_rows rows) end ≡ sum_before (held_rows (free_row ∷ rows)) end
      free-first = rw free-not-held

      go : (t : Bool) → (t || any q rows) ≡ true → (any q rows ≡ true → all_before (map start_of rows) (set (map held_size rows) (first_of q rows) 0) end ≡ sum_before (held_rows (put_first q free_row rows)) end)
          → all_before (r.start ∷ map start_of rows) (set (held_size r ∷ map held_size rows) (cond t 0 (suc (first_of q rows))) 0) end
          ≡ sum_before (held_rows (cond t (free_row ∷ rows) (r ∷ put_first q free_row rows))) end
      go true h ih = let z = none_before r.start in let y = before-held rows in (omega arith) ∙ free-first
      go false h ih = ap (λ (t : ℕ). bytes_before end r.start (held_size r) + t) (ih h) ∙ head-before r (put_first q free_row rows)

  before-stay : (n : Str) (rows : List Row) (row : ℕ) → RowIs n rows row → all_before (map start_of rows) (set (map held_size rows) row 0) end ≡ sum_before (others n rows) end
  unfolding others
  before-stay n rows row (own a e) = ap (λ (k : ℕ). all_before (map start_of rows) (set (map held_size rows) k 0) end) e ∙ before-but (is_named n) rows a
  before-stay n rows row (new a f e) =
      ap (λ (k : ℕ). all_before (map start_of rows) (set (map held_size rows) k 0) end) e ∙ before-but is_free rows f ∙ ap (λ (l : List Row). sum_before l end) (same-others n rows a)

-- the bytes of one place that a buffer has
one-before : (r : Row) (p : Str) → length (kept (λ i. in_place i r) 0 p) ≡ bytes_before (length p) r.start r.size
unfolding bytes_before
one-before r p = go (ltb (length p) r.start) refl
  where
    past : r.start ≤ length p → length (kept (λ i. in_place i r) 0 p) ≡ length (kept (λ i. in_place i r) r.start (drop r.start p))
    past h =
        let n : length (take r.start p) ≡ r.start = length-take-le r.start p h in
        let z : 0 + length (take r.start p) ≡ r.start = omega arith in
        ap (λ (x : Str). length (kept (λ i. in_place i r) 0 x)) (sym (take-append-drop r.start p))
        ∙ ap length (kept_append (λ i. in_place i r) 0 (take r.start p) (drop r.start p)
        ∙ ap₂ (λ (x : Str) (k : ℕ). x ++ kept (λ i. in_place i r) k (drop r.start p)) (kept-none (λ i. in_place i r) 0 (take r.start p) (λ j x y. in-before r j (omega arith))) z)

    inner : r.start ≤ length p → (t : Bool) → ltb (length p - r.start) r.size ≡ t
        → length (kept (λ i. in_place i r) r.start (drop r.start p)) ≡ cond t (length p - r.start) r.size
    inner h true e =
        let k = ltb-true (length p - r.start) r.size e in
        let d = length-drop r.start p in
        ap length (kept-all (λ i. in_place i r) r.start (drop r.start p) (λ j x y. in-here r j x (omega arith))) ∙ d
    inner h false e =
        let k = ltb-false (length p - r.start) r.size e in
        let d = length-drop r.start p in
        let q : Str = drop r.start p in
        let m : length (take r.size q) ≡ r.size = length-take-le r.size q (omega arith) in
        ap (λ (x : Str). length (kept (λ i. in_place i r) r.start x)) (sym (take-append-drop r.size q))
        ∙ ap length (kept_append (λ i. in_place i r) r.start (take r.size q) (drop r.size q)
        ∙ ap₂ (λ (x y : Str). x ++ y) (kept-all (λ i. in_place i r) r.start (take r.size q) (λ j x y. in-here r j x (omega arith)))
        (kept-none (λ i. in_place i r) (r.start + length (take r.size q)) (drop r.size q) (λ j x y. in_after r j (omega arith))))
        ∙ length-append (take r.size q) [] ∙ (omega arith)

    go : (t : Bool) → ltb (length p) r.start ≡ t → length (kept (λ i. in_place i r) 0 p) ≡ cond t 0 (cond (ltb (length p - r.start) r.size) (length p - r.start) r.size)
    go true e = let k = ltb-true (length p) r.start e in ap length (kept-none (λ i. in_place i r) 0 p (λ j x y. in-before r j (omega arith)))
    go false e = let k = ltb-false (length p) r.start e in past k ∙ inner k (ltb (length p - r.start) r.size) refl

all-before : (p : Str) (rows : List Row) → Pairwise rows → length (kept (λ i. any (in_place i) rows) 0 p) ≡ sum_before rows (length p)
unfolding sum_before any
all-before p [] h = ap length (kept-none (λ i. false) 0 p (λ j x y. refl))
all-before p (r ∷ rows) h =
    kept-both (λ i. in_place i r) (λ i. any (in_place i) rows) (λ i. in_place i r || any (in_place i) rows) (λ j. refl)
    (λ j a b. let x = any_some (in_place j) rows b in no_byte r x.0 j (h.0 x.0 x.1) a x.2) 0 p
    ∙ ap₂ (λ (x y : ℕ). x + y) (one-before r p) (all-before p rows h.1)

pub kept_same : (c d : ℕ → Bool) → ((j : ℕ) → c j ≡ d j) → (i : ℕ) (p : Str) → kept c i p ≡ kept d i p
unfolding kept
kept_same c d h i [] = refl
kept_same c d h i (x ∷ p) = rw (h i, kept_same c d h (i + 1) p)

module _ (n : Str) (rows : List Row) (room : ℕ) (valid : forged room rows ≡ false) (row : ℕ) (k : RowIs n rows row) where
  abbrev spans : List ℕ
  spans = set (map held_size rows) row 0

  apart : Pairwise (others n rows)
  unfolding others
  apart = pairs-fewer (is_named n) rows (forged-pairs room rows valid)

  -- what the code adds up is what the definition keeps
  pub before-is : (p : Str) → all_before (map start_of rows) spans (length p) ≡ length (kept (staying n rows) 0 p)
  unfolding staying
  before-is p = before-stay (length p) n rows row k ∙ sym (all-before p (others n rows) apart)

  pub spaced : Spaced (map start_of rows) spans
  spaced = record { few = λ end. few end }
    where
      few : (end : ℕ) → all_before (map start_of rows) spans end ≤ end
      few end =
          let z = zeros-long end in
          let e : all_before (map start_of rows) spans end ≡ length (kept (staying n rows) 0 (zeros end)) = ap (all_before (map start_of rows) spans) (sym z) ∙ before-is (zeros end) in
          let f = kept-few (staying n rows) 0 (zeros end) in
          omega arith

  pub closed_is : (p : Str) → kept (covering (map start_of rows) spans) 0 p ≡ closed n rows p
  unfolding closed
  closed_is p = kept_same (covering (map start_of rows) spans) (staying n rows) (covers-stay n rows row k) 0 p

  pub start_is : (p : Str) (a : ℕ) → all_before (map start_of rows) spans (least a (length p)) ≡ kept_before (staying n rows) p a
  unfolding kept_before
  start_is p a = ap (all_before (map start_of rows) spans) (sym is) ∙ before-is (take a p)
    where
      is : length (take a p) ≡ least a (length p)
      is = lib.ListN.length-take a p ∙ go (ltb a (length p)) refl
        where
          go : (t : Bool) → ltb a (length p) ≡ t → Prim.Native.Nat.min a (length p) ≡ cond t a (length p)
          go true e = let x = ltb-true a (length p) e in omega arith
          go false e = let x = ltb-false a (length p) e in omega arith
