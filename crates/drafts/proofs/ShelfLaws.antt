-- 02, W-211: a draft set under a name is held as it was, and so are those under all other names. Assumes nothing.
use Rattle.std.specs.Prelude.{Option, Some, None}
use mathlib.Core.Path.{◌≡◌, refl, sym, ap, ap₂, ◌∙◌, subst}
use mathlib.Core.List.Memᴰ
use mathlib.Core.List.{List, [], ◌∷◌, ◌++◌, map, append_assoc, Memᴰ}
use mathlib.Core.Bool.{Bool, true, false, ◌&&◌, ◌||◌, not, cond, false≢true}
use Prim.Native.Nat.{ℕ, zero, suc, ◌+◌, ◌≤◌, ◌<◌}
use native.Mathlib.Omega.{arith}
use lib.ListN.{length, take, drop}
use lib.Seq.{take_at, drop_at}
use lib.Dec.{ltb, leb}
use borrow.Author.Tests.{ne_eqb, le-leb, lt-ltb, leb-true, ltb-false}
use Rattle.record.specs.Base.{Str, any, find, is_text}
use Rattle.record.specs.Fill.{fronted}
use Rattle.record.proofs.Basics.{both, eqs-refl, eqs→eq, find-some, filter-mem, any_none}
use Rattle.drafts.specs.Packing.{kept_before}
use Rattle.drafts.specs.Shelf.{Row, is_held, is_free, name_of, is_named, good_name, held_rows, row_of, outside, forged, overlapping, bytes_of, free_row, put_first, others, in_place, staying, closed, moved_row, filled, new_row, put}
use Rattle.drafts.proofs.Pools.{any-mem, text_same}

-- a draft under a name ----------------------------------------------------------------------------------------------------------

pub record Under (rows : List Row) (held n x : Str) : Type 0 where
  pub row : Row
  pub found : row_of n rows ≡ Some row
  pub holds : bytes_of held row ≡ x

module _ (m : Str) where
  -- a row put in place of one that has another name does not hide the row of this name
  find-put : (p : Row → Bool) (x : Row) (rows : List Row) → is_named m x ≡ false → ((r : Row) → p r ≡ true → is_named m r ≡ false)
      → find (is_named m) (put_first p x rows) ≡ find (is_named m) rows
  unfolding find put_first
  find-put p x [] a h = refl
  find-put p x (r ∷ rows) a h = go (p r) refl (find-put p x rows a h)
    where
      go : (t : Bool) → p r ≡ t → find (is_named m) (put_first p x rows) ≡ find (is_named m) rows
          → find (is_named m) (cond t (x ∷ rows) (r ∷ put_first p x rows)) ≡ cond (is_named m r) (Some r) (find (is_named m) rows)
      go true q e = rw (a, h r q)
      go false q e = ap (λ (o : Option Row). cond (is_named m r) (Some r) o) e

  -- a row put where none of its name is before it is found
  find-own : (p : Row → Bool) (x : Row) (rows : List Row) → is_named m x ≡ true → any p rows ≡ true → ((r : Row) → p r ≡ false → Memᴰ r rows → is_named m r ≡ false)
      → find (is_named m) (put_first p x rows) ≡ Some x
  unfolding find put_first any
  find-own p x [] a b h = absurd (false≢true b)
  find-own p x (r ∷ rows) a b h = go (p r) refl b (λ c. find-own p x rows a c (λ u q l. h u q (Memᴰ.tail l)))
    where
      go : (t : Bool) → p r ≡ t → (t || any p rows) ≡ true → (any p rows ≡ true → find (is_named m) (put_first p x rows) ≡ Some x)
          → find (is_named m) (cond t (x ∷ rows) (r ∷ put_first p x rows)) ≡ Some x
      go true q b e = rw a
      go false q b e = rw (h r q (Memᴰ.head refl)) (e b)

  -- rows that keep their names are found in the same order
  find-map : (f : Row → Row) (rows : List Row) (r : Row) → ((u : Row) → is_named m (f u) ≡ is_named m u) → find (is_named m) rows ≡ Some r → find (is_named m) (map f rows) ≡ Some (f r)
  unfolding find
  find-map f [] r h e = absurd (let z : ◌≡◌ {A = ℕ} 0 1 = cc in omega arith)
  find-map f (u ∷ rows) r h e = go (is_named m u) refl (find-map f rows r h) e
    where
      go : (t : Bool) → is_named m u ≡ t → (find (is_named m) rows ≡ Some r → find (is_named m) (map f rows) ≡ Some (f r)) → cond t (Some u) (find (is_named m) rows) ≡ Some r
          → cond (is_named m (f u)) (Some (f u)) (find (is_named m) (map f rows)) ≡ Some (f r)
      go true q ih e = let z : u ≡ r = cc in rw (h u, q) (ap (λ (x : Row). Some (f x)) z)
      go false q ih e = rw (h u, q) (ih e)

-- one row has one name
one_name : (m n : Str) (r : Row) → is_named m r ≡ true → is_named n r ≡ true → m ≡ n
unfolding is_named is_text
one_name m n r a b = go (name_of r) a b
  where
    go : (o : Option Str) → is_text o m ≡ true → is_text o n ≡ true → m ≡ n
    go None a b = absurd (false≢true a)
    go (Some x) a b = sym (eqs→eq x m a) ∙ eqs→eq x n b

not_named : (m n : Str) (r : Row) → (m ≡ n → ⊥) → is_named m r ≡ true → is_named n r ≡ false
not_named m n r d a = go (is_named n r) refl
  where
    go : (t : Bool) → is_named n r ≡ t → t ≡ false
    go true q = absurd (d (one_name m n r a q))
    go false q = refl

pub named-held : (m : Str) (r : Row) → is_named m r ≡ true → is_held r ≡ true
unfolding is_named name_of is_text
named-held m r a = go (is_held r) refl (leb r.letters 16) a
  where
    go : (t : Bool) → is_held r ≡ t → (u : Bool) → is_text (cond (t && u) (Some (take r.letters r.word)) None) m ≡ true → t ≡ true
    go true q u a = refl
    go false q u a = absurd (false≢true a)

-- the row that is set has its name
filled-take : (k : ℕ) (n : Str) → length n ≤ k → take (length n) (filled k n) ≡ n
unfolding filled
filled-take k [] h = refl
filled-take zero (b ∷ n) h = absurd (omega arith)
filled-take (suc k) (b ∷ n) h = ap (λ (l : Str). b ∷ l) (filled-take k n (omega arith))

pub new-named : (n : Str) (a l : ℕ) → good_name n ≡ true → is_named n (new_row n a l) ≡ true
unfolding good_name is_named name_of is_held is_text
new-named n a l g =
    let k = both (leb 1 (length n)) (leb (length n) 16) g in
    let x = leb-true 1 (length n) k.0 in
    let y = leb-true (length n) 16 k.1 in
    rw (ne_eqb (length n) 0 (λ q. omega arith), k.1, filled-take 16 n y) (eqs-refl n)

pub mem-put : (p : Row → Bool) (x : Row) (rows : List Row) (u : Row) → Memᴰ u rows → p u ≡ false → Memᴰ u (put_first p x rows)
unfolding put_first
mem-put p x [] u m h = absurd (Memᴰ.not-nil m)
mem-put p x (r ∷ rows) u (Memᴰ.head e) h = subst (λ (y : Row). Memᴰ u (cond (p y) (x ∷ rows) (y ∷ put_first p x rows))) e (rw h (Memᴰ.head refl))
mem-put p x (r ∷ rows) u (Memᴰ.tail m) h = go (p r) (mem-put p x rows u m h)
  where
    go : (t : Bool) → Memᴰ u (put_first p x rows) → Memᴰ u (cond t (x ∷ rows) (r ∷ put_first p x rows))
    go true k = Memᴰ.tail m
    go false k = Memᴰ.tail k

pub any-map : (p : Row → Bool) (f : Row → Row) (rows : List Row) → ((u : Row) → p (f u) ≡ p u) → any p (map f rows) ≡ any p rows
unfolding any
any-map p f [] h = refl
any-map p f (r ∷ rows) h = ap₂ ◌||◌ (h r) (any-map p f rows h)

free-unnamed : (m : Str) (r : Row) → is_free r ≡ true → is_named m r ≡ false
free-unnamed m r h = go (is_named m r) refl
  where
    go : (t : Bool) → is_named m r ≡ t → t ≡ false
    go true q = absurd (false≢true (rw (named-held m r q) at h))
    go false q = refl

pub not-outside : (room : ℕ) (rows : List Row) (u : Row) → forged room rows ≡ false → Memᴰ u (held_rows rows) → u.start + u.size ≤ room
unfolding forged outside
not-outside room rows u h m = go (any (outside room) (held_rows rows)) refl h
  where
    fits : (t : Bool) → ltb room (u.start + u.size) ≡ t → any (outside room) (held_rows rows) ≡ false → u.start + u.size ≤ room
    fits true q n = absurd (any_none (outside room) (held_rows rows) n m q)
    fits false q n = ltb-false room (u.start + u.size) q

    go : (t : Bool) → any (outside room) (held_rows rows) ≡ t → (t || overlapping (held_rows rows)) ≡ false → u.start + u.size ≤ room
    go true q h = absurd (false≢true (sym h))
    go false q h = fits (ltb room (u.start + u.size)) refl q

in-held_rows : (m : Str) (rows : List Row) (u : Row) → Memᴰ u rows → is_named m u ≡ true → Memᴰ u (held_rows rows)
unfolding held_rows
in-held_rows m rows u k a = filter-mem is_held rows k (named-held m u a)

-- setting ---------------------------------------------------------------------------------------------------------------------------

module _ (rows : List Row) (held n new : Str) (good : good_name n ≡ true) (valid : forged (length held) rows ≡ false)
    (row-for : (any (is_named n) rows || any is_free rows) ≡ true) where
  abbrev front : Str
  front = closed n rows held

  abbrev own : Row
  own = new_row n (length front) (length new)

  abbrev moved-rows : List Row
  moved-rows = map (moved_row n rows held) rows

  -- the rows and the buffer afterwards
  abbrev pub rows-after : List Row
  rows-after = put n own moved-rows

  abbrev pub held_after : Str
  held_after = fronted held (front ++ new)

  pub same_name : (m : Str) (u : Row) → is_named m (moved_row n rows held u) ≡ is_named m u
  unfolding moved_row is_named name_of is_held
  same_name m u = refl

  pub same-free : (u : Row) → not (is_held (moved_row n rows held u)) ≡ not (is_held u)
  unfolding moved_row is_held
  same-free u = refl

  own-found : row_of n rows-after ≡ Some own
  unfolding row_of put
  own-found = go (any (is_named n) moved-rows) refl
    where
      go : (t : Bool) → any (is_named n) moved-rows ≡ t → find (is_named n) (cond t (put_first (is_named n) own moved-rows) (put_first is_free own moved-rows)) ≡ Some own
      go true q = find-own n (is_named n) own moved-rows (new-named n (length front) (length new) good) q (λ r e m. e)
      go false q =
          let a : any (is_named n) rows ≡ false = sym (any-map (is_named n) (moved_row n rows held) rows (same_name n)) ∙ q in
          let b : any is_free moved-rows ≡ true = any-map is_free (moved_row n rows held) rows same-free ∙ (rw a at row-for) in
          find-own n is_free own moved-rows (new-named n (length front) (length new) good) b (λ r e m. unnamed q r m)
        where
          unnamed : any (is_named n) moved-rows ≡ false → (r : Row) → Memᴰ r moved-rows → is_named n r ≡ false
          unnamed q r m = is (is_named n r) refl
            where
              is : (t : Bool) → is_named n r ≡ t → t ≡ false
              is true e = absurd (any_none (is_named n) moved-rows q m e)
              is false e = refl

  -- the draft is held under its name
  pub set_own : Under rows-after held_after n new
  unfolding bytes_of fronted
  set_own = record {
    row = own;
    found = own-found;
    holds = ap (λ (l : Str). take (length new) (drop (length front) l)) (append_assoc front new (drop (length (front ++ new)) held))
        ∙ ap (take (length new)) (drop_at front (new ++ drop (length (front ++ new)) held) (length front) refl) ∙ take_at new (drop (length (front ++ new)) held) (length new) refl;
  }

  -- and so are all others, as they were
  module _ (m x : Str) (other : m ≡ n → ⊥) (u : Under rows held m x) where
    is-named : Memᴰ u.row rows × (is_named m u.row ≡ true)
    unfolding row_of
    is-named = find-some (is_named m) rows u.found

    fits_in : u.row.start + u.row.size ≤ length held
    fits_in = not-outside (length held) rows u.row valid (in-held_rows m rows u.row is-named.0 is-named.1)

    stays_on : (j : ℕ) → u.row.start ≤ j → j < u.row.start + u.row.size → staying n rows j ≡ true
    unfolding staying others in_place held_rows
    stays_on j a b =
        any-mem (in_place j) (others n rows) (filter-mem is_held (put_first (is_named n) free_row rows) (mem-put (is_named n) free_row rows u.row is-named.0 (not_named m n u.row other is-named.1)) (named-held m u.row is-named.1))
        (rw (le-leb u.row.start j a, lt-ltb j (u.row.start + u.row.size) b))

    other-found : row_of m rows-after ≡ Some (moved_row n rows held u.row)
    unfolding row_of put
    other-found = go (any (is_named n) moved-rows) ∙ find-map m (moved_row n rows held) rows u.row (same_name m) u.found
      where
        x-other : is_named m own ≡ false
        x-other = not_named n m own (λ e. other (sym e)) (new-named n (length front) (length new) good)

        go : (t : Bool) → find (is_named m) (cond t (put_first (is_named n) own moved-rows) (put_first is_free own moved-rows)) ≡ find (is_named m) moved-rows
        go true = find-put m (is_named n) own moved-rows x-other (λ r e. not_named n m r (λ q. other (sym q)) e)
        go false = find-put m is_free own moved-rows x-other (λ r e. free-unnamed m r e)

    pub set_other : Under rows-after held_after m x
    unfolding bytes_of fronted moved_row closed
    set_other =
        let k = kept_before (staying n rows) held u.row.start in
        let v : Str = new ++ drop (length (front ++ new)) held in
        let z : k ≡ 0 + k = omega arith in
        record {
          row = moved_row n rows held u.row;
          found = other-found;
          holds = ap₂ (λ (l : Str) (i : ℕ). take u.row.size (drop i l)) (append_assoc front new (drop (length (front ++ new)) held)) z
              ∙ text_same (staying n rows) held [] v u.row.start u.row.size fits_in stays_on ∙ u.holds;
        }
