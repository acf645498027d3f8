-- 02, W-211: after a draft is set no place is outside the buffer or over another. Assumes nothing.
use mathlib.Core.Path.{◌≡◌, refl, sym, ap, ◌∙◌, subst}
use mathlib.Core.List.Memᴰ
use mathlib.Core.List.{List, [], ◌∷◌, ◌++◌, map, Memᴰ}
use mathlib.Core.Logic.{◌⊎◌, inl, inr}
use mathlib.Core.Bool.{Bool, true, false, ◌&&◌, ◌||◌, not, cond, false≢true}
use Prim.Native.Nat.{ℕ, ◌+◌, ◌-◌, ◌≤◌, ◌<◌}
use native.Mathlib.Omega.{arith}
use lib.ListN.{length, take, drop, length-append, length-drop}
use lib.Seq.{take-add, take-length, length-take-le, length_front}
use lib.Dec.{ltb}
use borrow.Author.Tests.{le-leb, lt-ltb, le-ltb, ltb-false}
use Rattle.record.specs.Base.{Str, any, filter_b}
use Rattle.record.specs.Fill.{fronted}
use Rattle.record.proofs.Basics.{filter-mem, any_none}
use Rattle.drafts.specs.Packing.{kept, kept_before}
use Rattle.drafts.specs.Shelf.{Row, is_held, is_free, name_of, is_named, good_name, held_rows, outside, meets, overlapping, forged, free_row, put_first, others, in_place, staying, closed, moved_row, new_row, put}
use Rattle.drafts.proofs.Pools.{any-mem, kept_append, kept-all}
use Rattle.drafts.proofs.ShelfLaws.{new-named, named-held, mem-put, not-outside}

-- how many bytes are kept before a place --------------------------------------------------------------------------------------------

module _ (c : ℕ → Bool) (p : Str) where
  -- the kept bytes before a later place
  before-add : (a l : ℕ) → a + l ≤ length p → kept_before c p (a + l) ≡ kept_before c p a + length (kept c a (take l (drop a p)))
  unfolding kept_before
  before-add a l h =
      let n : 0 + length (take a p) ≡ a = omega (arith, length-take-le a p (omega arith)) in
      ap (λ (x : Str). length (kept c 0 x)) (take-add a l p) ∙ ap length (kept_append c 0 (take a p) (take l (drop a p)))
      ∙ length-append (kept c 0 (take a p)) (kept c (0 + length (take a p)) (take l (drop a p))) ∙ ap (λ (i : ℕ). length (kept c 0 (take a p)) + length (kept c i (take l (drop a p)))) n

  pub before-later : (a b : ℕ) → a ≤ b → b ≤ length p → kept_before c p a ≤ kept_before c p b
  before-later a b h k =
      let e : a + (b - a) ≡ b = omega arith in
      let f = before-add a (b - a) (omega arith) in
      let g : kept_before c p b ≡ kept_before c p a + length (kept c a (take (b - a) (drop a p))) = ap (kept_before c p) (sym e) ∙ f in
      omega arith

  -- a place that is kept whole
  pub before-whole : (a l : ℕ) → a + l ≤ length p → ((j : ℕ) → a ≤ j → j < a + l → c j ≡ true) → kept_before c p (a + l) ≡ kept_before c p a + l
  before-whole a l h all =
      let n : length (take l (drop a p)) ≡ l = length-take-le l (drop a p) (simp length-drop (omega arith)) in
      before-add a l h ∙ ap (λ (x : Str). kept_before c p a + length x) (kept-all c a (take l (drop a p)) (λ j x y. all j x (omega arith))) ∙ ap (λ (i : ℕ). kept_before c p a + i) n

  pub before-all : kept_before c p (length p) ≡ length (kept c 0 p)
  unfolding kept_before
  before-all = ap (λ (x : Str). length (kept c 0 x)) (take-length p)

-- places that do not meet -------------------------------------------------------------------------------------------------------------

pub data Clear (a b : Row) : Type 0 where
  left : a.start + a.size ≤ b.start → Clear a b
  right : b.start + b.size ≤ a.start → Clear a b
  empty-a : a.size ≡ 0 → Clear a b
  empty-b : b.size ≡ 0 → Clear a b

pub clear : (a b : Row) → meets a b ≡ false → Clear a b
unfolding meets
clear a b h = go (ltb a.start (b.start + b.size)) refl (ltb b.start (a.start + a.size)) refl (ltb 0 a.size) refl (ltb 0 b.size) refl h
  where
    go : (x : Bool) → ltb a.start (b.start + b.size) ≡ x → (y : Bool) → ltb b.start (a.start + a.size) ≡ y → (z : Bool) → ltb 0 a.size ≡ z → (w : Bool) → ltb 0 b.size ≡ w
        → (x && y && z && w) ≡ false → Clear a b
    go false e y f z g w k h = right (ltb-false a.start (b.start + b.size) e)
    go true e false f z g w k h = left (ltb-false b.start (a.start + a.size) f)
    go true e true f false g w k h = empty-a (let q = ltb-false 0 a.size g in omega arith)
    go true e true f true g false k h = empty-b (let q = ltb-false 0 b.size k in omega arith)
    go true e true f true g true k h = absurd (false≢true (sym h))

pub apart : (a b : Row) → Clear a b → meets a b ≡ false
unfolding meets
apart a b (left h) = rw (le-ltb b.start (a.start + a.size) h) (go (ltb a.start (b.start + b.size)))
  where
    go : (x : Bool) → (x && false && ltb 0 a.size && ltb 0 b.size) ≡ false
    go true = refl
    go false = refl
apart a b (right h) = rw (le-ltb a.start (b.start + b.size) h)
apart a b (empty-a h) = rw h (go (ltb a.start (b.start + b.size)) (ltb b.start (a.start + 0)))
  where
    go : (x y : Bool) → (x && y && false && ltb 0 b.size) ≡ false
    go true true = refl
    go true false = refl
    go false y = refl
apart a b (empty-b h) = rw h (go (ltb a.start (b.start + 0)) (ltb b.start (a.start + a.size)) (ltb 0 a.size))
  where
    go : (x y z : Bool) → (x && y && z && false) ≡ false
    go true true true = refl
    go true true false = refl
    go true false z = refl
    go false y z = refl

abbrev pub Pairwise : List Row → Type 0
Pairwise [] = Unit {0}
Pairwise (r ∷ rows) = ((u : Row) → Memᴰ u rows → Clear r u) × Pairwise rows

pub pairwise : (rows : List Row) → overlapping rows ≡ false → Pairwise rows
unfolding overlapping
pairwise [] h = tt
pairwise (r ∷ rows) h = go (any (meets r) rows) refl h (pairwise rows)
  where
    miss : any (meets r) rows ≡ false → (u : Row) → Memᴰ u rows → (t : Bool) → meets r u ≡ t → Clear r u
    miss q u m true e = absurd (any_none (meets r) rows q m e)
    miss q u m false e = clear r u e

    go : (t : Bool) → any (meets r) rows ≡ t → (t || overlapping rows) ≡ false → (overlapping rows ≡ false → Pairwise rows) → Pairwise (r ∷ rows)
    go true q h ih = absurd (false≢true (sym h))
    go false q h ih = (λ u m. miss q u m (meets r u) refl, ih h)

none-meets : (r : Row) (l : List Row) → ((u : Row) → Memᴰ u l → Clear r u) → any (meets r) l ≡ false
unfolding any
none-meets r [] k = refl
none-meets r (u ∷ l) k = rw (apart r u (k u (Memᴰ.head refl))) (none-meets r l (λ v m. k v (Memᴰ.tail m)))

pub none_over : (rows : List Row) → Pairwise rows → overlapping rows ≡ false
unfolding overlapping
none_over [] h = refl
none_over (r ∷ rows) h = rw (none-meets r rows h.0) (none_over rows h.1)

-- a row that replaces the first that passes a test, in rows that are moved --------------------------------------------------------------

pub free-not-held : is_held free_row ≡ false
unfolding is_held
free-not-held = refl

module _ (mv : Row → Row) (own : Row) (held-own : is_held own ≡ true) (same-held : (u : Row) → is_held (mv u) ≡ is_held u) where
  -- where a moved row comes from
  from-map : (l : List Row) (w : Row) → Memᴰ w (held_rows (map mv l)) → (v : Row) × Memᴰ v (held_rows l) × (w ≡ mv v)
  unfolding held_rows filter_b
  from-map [] w m = absurd (Memᴰ.not-nil m)
  from-map (r ∷ l) w m = go (is_held r) (subst (λ (b : Bool). Memᴰ w (cond b (mv r ∷ filter_b is_held (map mv l)) (filter_b is_held (map mv l)))) (same-held r) m) (from-map l w)
    where
      here : Memᴰ w (mv r ∷ filter_b is_held (map mv l)) → (Memᴰ w (held_rows (map mv l)) → (v : Row) × Memᴰ v (held_rows l) × (w ≡ mv v))
          → (v : Row) × Memᴰ v (r ∷ filter_b is_held l) × (w ≡ mv v)
      here (Memᴰ.head e) ih = (r, Memᴰ.head refl, e)
      here (Memᴰ.tail k) ih = let x = ih k in (x.0, Memᴰ.tail x.1, x.2)

      go : (b : Bool) → Memᴰ w (cond b (mv r ∷ filter_b is_held (map mv l)) (filter_b is_held (map mv l))) → (Memᴰ w (held_rows (map mv l)) → (v : Row) × Memᴰ v (held_rows l) × (w ≡ mv v))
          → (v : Row) × Memᴰ v (cond b (r ∷ filter_b is_held l) (filter_b is_held l)) × (w ≡ mv v)
      go true k ih = here k ih
      go false k ih = ih k

  module _ (S : Row → Type 0) (moved-clear : (u v : Row) → S u → S v → Clear u v → Clear (mv u) (mv v)) (own-clear : (u : Row) → S u → Clear own (mv u)) (clear-own : (u : Row) → S u → Clear (mv u) own) where
    pairs-map : (l : List Row) → Pairwise (held_rows l) → ((u : Row) → Memᴰ u (held_rows l) → S u) → Pairwise (held_rows (map mv l))
    unfolding held_rows filter_b
    pairs-map [] h k = tt
    pairs-map (r ∷ l) h k =
        subst (λ (b : Bool). Pairwise (cond b (mv r ∷ filter_b is_held (map mv l)) (filter_b is_held (map mv l)))) (sym (same-held r)) (go (is_held r) h k (pairs-map l))
      where
        go : (b : Bool) → Pairwise (cond b (r ∷ filter_b is_held l) (filter_b is_held l)) → ((u : Row) → Memᴰ u (cond b (r ∷ filter_b is_held l) (filter_b is_held l)) → S u)
            → (Pairwise (held_rows l) → ((u : Row) → Memᴰ u (held_rows l) → S u) → Pairwise (held_rows (map mv l))) → Pairwise (cond b (mv r ∷ filter_b is_held (map mv l)) (filter_b is_held (map mv l)))
        go true h k ih = (
          λ w m. let x = from-map l w m in subst (λ (y : Row). Clear (mv r) y) (sym x.2) (moved-clear r x.0 (k r (Memᴰ.head refl)) (k x.0 (Memᴰ.tail x.1)) (h.0 x.0 x.1)),
          ih h.1 (λ u m. k u (Memᴰ.tail m)),
        )
        go false h k ih = ih h k

    module _ (q : Row → Bool) (same-q : (u : Row) → q (mv u) ≡ q u) where
      -- the rows that stay where the first that passes gives way
      abbrev left_over : List Row → List Row
      left_over l = held_rows (put_first q free_row l)

      abbrev after : List Row → List Row
      after l = held_rows (put_first q own (map mv l))

      from-put : (l : List Row) (w : Row) → Memᴰ w (after l) → (w ≡ own) ⊎ ((v : Row) × Memᴰ v (left_over l) × (w ≡ mv v))
      unfolding held_rows filter_b put_first
      from-put [] w m = absurd (Memᴰ.not-nil m)
      from-put (r ∷ l) w m =
          go (q r) (is_held r) refl (subst (λ (b : Bool). Memᴰ w (filter_b is_held (cond b (own ∷ map mv l) (mv r ∷ put_first q own (map mv l))))) (same-q r) m) (from-put l w)
        where
          first-own : Memᴰ w (own ∷ filter_b is_held (map mv l)) → (w ≡ own) ⊎ ((v : Row) × Memᴰ v (filter_b is_held l) × (w ≡ mv v))
          first-own (Memᴰ.head e) = inl e
          first-own (Memᴰ.tail k) = inr (from-map l w k)

          later : (w ≡ own) ⊎ ((v : Row) × Memᴰ v (left_over l) × (w ≡ mv v)) → (w ≡ own) ⊎ ((v : Row) × Memᴰ v (r ∷ left_over l) × (w ≡ mv v))
          later (inl e) = inl e
          later (inr x) = inr (x.0, Memᴰ.tail x.1, x.2)

          first-row : Memᴰ w (mv r ∷ after l) → (Memᴰ w (after l) → (w ≡ own) ⊎ ((v : Row) × Memᴰ v (left_over l) × (w ≡ mv v)))
              → (w ≡ own) ⊎ ((v : Row) × Memᴰ v (r ∷ left_over l) × (w ≡ mv v))
          first-row (Memᴰ.head e) ih = inr (r, Memᴰ.head refl, e)
          first-row (Memᴰ.tail k) ih = later (ih k)

          go : (b c : Bool) → is_held r ≡ c → Memᴰ w (filter_b is_held (cond b (own ∷ map mv l) (mv r ∷ put_first q own (map mv l))))
              → (Memᴰ w (after l) → (w ≡ own) ⊎ ((v : Row) × Memᴰ v (left_over l) × (w ≡ mv v)))
              → (w ≡ own) ⊎ ((v : Row) × Memᴰ v (filter_b is_held (cond b (free_row ∷ l) (r ∷ put_first q free_row l))) × (w ≡ mv v))
          go true c e k ih = rw free-not-held (first-own (rw held-own at k))
          go false true e k ih = rw e (first-row (rw (same-held r, e) at k) ih)
          go false false e k ih = rw e (ih (rw (same-held r, e) at k))

      pub pairs-put : (l : List Row) → Pairwise (left_over l) → ((u : Row) → Memᴰ u (left_over l) → S u) → Pairwise (after l)
      unfolding held_rows filter_b put_first
      pairs-put [] h k = tt
      pairs-put (r ∷ l) h k =
          subst (λ (b : Bool). Pairwise (filter_b is_held (cond b (own ∷ map mv l) (mv r ∷ put_first q own (map mv l))))) (sym (same-q r)) (go (q r) (is_held r) refl h k (pairs-put l))
        where
          past : S r → ((u : Row) → Memᴰ u (left_over l) → S u) → ((u : Row) → Memᴰ u (left_over l) → Clear r u) → (w : Row) → (w ≡ own) ⊎ ((v : Row) × Memᴰ v (left_over l) × (w ≡ mv v)) → Clear (mv r) w
          past sr k h w (inl e) = subst (λ (y : Row). Clear (mv r) y) (sym e) (clear-own r sr)
          past sr k h w (inr x) = subst (λ (y : Row). Clear (mv r) y) (sym x.2) (moved-clear r x.0 sr (k x.0 x.1) (h x.0 x.1))

          go : (b c : Bool) → is_held r ≡ c → Pairwise (filter_b is_held (cond b (free_row ∷ l) (r ∷ put_first q free_row l)))
              → ((u : Row) → Memᴰ u (filter_b is_held (cond b (free_row ∷ l) (r ∷ put_first q free_row l))) → S u)
              → (Pairwise (left_over l) → ((u : Row) → Memᴰ u (left_over l) → S u) → Pairwise (after l))
              → Pairwise (filter_b is_held (cond b (own ∷ map mv l) (mv r ∷ put_first q own (map mv l))))
          go true c e h k ih =
              let h2 : Pairwise (held_rows l) = rw free-not-held at h in
              let k2 : (u : Row) → Memᴰ u (held_rows l) → S u = rw free-not-held at k in
              rw held-own (λ w m. (let x = from-map l w m in subst (λ (y : Row). Clear own y) (sym x.2) (own-clear x.0 (k2 x.0 x.1))), pairs-map l h2 k2)
          go false true e h k ih =
              let h2 : ((u : Row) → Memᴰ u (left_over l) → Clear r u) × Pairwise (left_over l) = rw e at h in
              let k2 : (u : Row) → Memᴰ u (r ∷ left_over l) → S u = rw e at k in
              rw (same-held r, e) (λ w m. past (k2 r (Memᴰ.head refl)) (λ u n. k2 u (Memᴰ.tail n)) h2.0 w (from-put l w m), ih h2.1 (λ u n. k2 u (Memᴰ.tail n)))
          go false false e h k ih = rw (same-held r, e) (ih (rw e at h) (rw e at k))

-- setting ---------------------------------------------------------------------------------------------------------------------------

pub from-put_first : (q : Row → Bool) (x : Row) (l : List Row) (u : Row) → Memᴰ u (put_first q x l) → (u ≡ x) ⊎ Memᴰ u l
unfolding put_first
from-put_first q x [] u m = absurd (Memᴰ.not-nil m)
from-put_first q x (r ∷ l) u m = go (q r) m (from-put_first q x l u)
  where
    later : (u ≡ x) ⊎ Memᴰ u l → (u ≡ x) ⊎ Memᴰ u (r ∷ l)
    later (inl e) = inl e
    later (inr k) = inr (Memᴰ.tail k)

    other : Memᴰ u (r ∷ put_first q x l) → (Memᴰ u (put_first q x l) → (u ≡ x) ⊎ Memᴰ u l) → (u ≡ x) ⊎ Memᴰ u (r ∷ l)
    other (Memᴰ.head e) ih = inr (Memᴰ.head e)
    other (Memᴰ.tail k) ih = later (ih k)

    first-is : Memᴰ u (x ∷ l) → (u ≡ x) ⊎ Memᴰ u (r ∷ l)
    first-is (Memᴰ.head e) = inl e
    first-is (Memᴰ.tail k) = inr (Memᴰ.tail k)

    go : (t : Bool) → Memᴰ u (cond t (x ∷ l) (r ∷ put_first q x l)) → (Memᴰ u (put_first q x l) → (u ≡ x) ⊎ Memᴰ u l) → (u ≡ x) ⊎ Memᴰ u (r ∷ l)
    go true k ih = first-is k
    go false k ih = other k ih

of-filter : (l : List Row) (u : Row) → Memᴰ u (filter_b is_held l) → Memᴰ u l × (is_held u ≡ true)
unfolding filter_b
of-filter [] u m = absurd (Memᴰ.not-nil m)
of-filter (r ∷ l) u m = go (is_held r) refl m (of-filter l u)
  where
    here : is_held r ≡ true → Memᴰ u (r ∷ filter_b is_held l) → (Memᴰ u (filter_b is_held l) → Memᴰ u l × (is_held u ≡ true)) → Memᴰ u (r ∷ l) × (is_held u ≡ true)
    here q (Memᴰ.head e) ih = (Memᴰ.head e, ap is_held e ∙ q)
    here q (Memᴰ.tail k) ih = let x = ih k in (Memᴰ.tail x.0, x.1)

    go : (t : Bool) → is_held r ≡ t → Memᴰ u (cond t (r ∷ filter_b is_held l) (filter_b is_held l)) → (Memᴰ u (filter_b is_held l) → Memᴰ u l × (is_held u ≡ true)) → Memᴰ u (r ∷ l) × (is_held u ≡ true)
    go true q k ih = here q k ih
    go false q k ih = let x = ih k in (Memᴰ.tail x.0, x.1)

-- a row fewer keeps the pairs
pub pairs-fewer : (q : Row → Bool) (l : List Row) → Pairwise (held_rows l) → Pairwise (held_rows (put_first q free_row l))
unfolding held_rows filter_b put_first
pairs-fewer q [] h = tt
pairs-fewer q (r ∷ l) h = go (q r) (is_held r) refl h (pairs-fewer q l)
  where
    less : (u : Row) → Memᴰ u (held_rows (put_first q free_row l)) → Memᴰ u (held_rows l)
    less u m =
        let x = of-filter (put_first q free_row l) u m in
        is (from-put_first q free_row l u x.0) x.1
      where
        is : (u ≡ free_row) ⊎ Memᴰ u l → is_held u ≡ true → Memᴰ u (held_rows l)
        is (inl e) k = absurd (false≢true (sym free-not-held ∙ ap is_held (sym e) ∙ k))
        is (inr n) k = filter-mem is_held l n k

    go : (b c : Bool) → is_held r ≡ c → Pairwise (cond c (r ∷ filter_b is_held l) (filter_b is_held l)) → (Pairwise (held_rows l) → Pairwise (held_rows (put_first q free_row l)))
        → Pairwise (filter_b is_held (cond b (free_row ∷ l) (r ∷ put_first q free_row l)))
    go true true e h ih = rw free-not-held h.1
    go true false e h ih = rw free-not-held h
    go false true e h ih = rw e (λ u m. h.0 u (less u m), ih h.1)
    go false false e h ih = rw e (ih h)

pub held_in : (l : List Row) (u : Row) → Memᴰ u (held_rows l) → Memᴰ u l × (is_held u ≡ true)
unfolding held_rows
held_in l u m = of-filter l u m

other-in : (n : Str) (rows : List Row) (u : Row) → Memᴰ u rows → is_named n u ≡ false → is_held u ≡ true → Memᴰ u (others n rows)
unfolding others held_rows
other-in n rows u m e k = filter-mem is_held (put_first (is_named n) free_row rows) (mem-put (is_named n) free_row rows u m e) k

named-stay : (n : Str) (rows : List Row) (u : Row) → Memᴰ u (held_rows (put_first (is_named n) free_row rows)) → Memᴰ u (others n rows)
unfolding others
named-stay n rows u m = m

none-outside : (room : ℕ) (l : List Row) → ((u : Row) → Memᴰ u l → u.start + u.size ≤ room) → any (outside room) l ≡ false
unfolding any outside
none-outside room [] h = refl
none-outside room (r ∷ l) h = rw (le-ltb room (r.start + r.size) (h r (Memᴰ.head refl))) (none-outside room l (λ u m. h u (Memᴰ.tail m)))

pub forged-pairs : (room : ℕ) (rows : List Row) → forged room rows ≡ false → Pairwise (held_rows rows)
unfolding forged
forged-pairs room rows h = go (any (outside room) (held_rows rows)) h
  where
    go : (t : Bool) → (t || overlapping (held_rows rows)) ≡ false → Pairwise (held_rows rows)
    go true h = absurd (false≢true (sym h))
    go false h = pairwise (held_rows rows) h

module _ (rows : List Row) (held n new : Str) (good : good_name n ≡ true) (valid : forged (length held) rows ≡ false) (fits : length (closed n rows held) + length new ≤ length held) where
  abbrev front : Str
  front = closed n rows held

  abbrev own : Row
  own = new_row n (length front) (length new)

  abbrev mv : Row → Row
  mv = moved_row n rows held

  abbrev S : Row → Type 0
  S u = Memᴰ u (others n rows)

  -- a row that stays was held, and its bytes are kept
  was-held : (u : Row) → S u → Memᴰ u (held_rows rows)
  unfolding others held_rows
  was-held u m =
      let x = of-filter (put_first (is_named n) free_row rows) u m in
      is (from-put_first (is_named n) free_row rows u x.0) x.1
    where
      is : (u ≡ free_row) ⊎ Memᴰ u rows → is_held u ≡ true → Memᴰ u (filter_b is_held rows)
      is (inl e) k = absurd (false≢true (sym free-not-held ∙ ap is_held (sym e) ∙ k))
      is (inr m) k = filter-mem is_held rows m k

  inside : (u : Row) → S u → u.start + u.size ≤ length held
  inside u m = not-outside (length held) rows u valid (was-held u m)

  all-kept : (u : Row) → S u → (j : ℕ) → u.start ≤ j → j < u.start + u.size → staying n rows j ≡ true
  unfolding staying in_place
  all-kept u m j a b = any-mem (in_place j) (others n rows) m (rw (le-leb u.start j a, lt-ltb j (u.start + u.size) b))

  abbrev kb : ℕ → ℕ
  kb a = kept_before (staying n rows) held a

  end_of : (u : Row) → S u → kb (u.start + u.size) ≡ kb u.start + u.size
  end_of u m = before-whole (staying n rows) held u.start u.size (inside u m) (all-kept u m)

  moved-clear : (u v : Row) → S u → S v → Clear u v → Clear (mv u) (mv v)
  unfolding moved_row
  moved-clear u v a b (left h) = left (let e = end_of u a in let i = inside v b in let l = before-later (staying n rows) held (u.start + u.size) v.start h (omega arith) in omega arith)
  moved-clear u v a b (right h) = right (let e = end_of v b in let i = inside u a in let l = before-later (staying n rows) held (v.start + v.size) u.start h (omega arith) in omega arith)
  moved-clear u v a b (empty-a h) = empty-a h
  moved-clear u v a b (empty-b h) = empty-b h

  before-front : (u : Row) → S u → (mv u).start + (mv u).size ≤ length front
  unfolding moved_row closed
  before-front u m =
      let e = end_of u m in
      let l = before-later (staying n rows) held (u.start + u.size) (length held) (inside u m) (omega arith) in
      let f = before-all (staying n rows) held in
      omega arith

  held-own : is_held own ≡ true
  held-own = named-held n own (new-named n (length front) (length new) good)

  same-held : (u : Row) → is_held (mv u) ≡ is_held u
  unfolding moved_row is_held
  same-held u = refl

  same-named : (u : Row) → is_named n (mv u) ≡ is_named n u
  unfolding moved_row is_named name_of is_held
  same-named u = refl

  all_fit : (q : Row → Bool) (same-q : (u : Row) → q (mv u) ≡ q u) → ((u : Row) → Memᴰ u (held_rows (put_first q free_row rows)) → S u)
      → forged (length held) (put_first q own (map mv rows)) ≡ false
  unfolding forged
  all_fit q same-q stay =
      rw (none-outside (length held) (held_rows (put_first q own (map mv rows))) (λ w m. reach w (from-put mv own held-own same-held S moved-clear (λ u k. right (before-front u k)) (λ u k. left (before-front u k)) q same-q rows w m)))
      (none_over (held_rows (put_first q own (map mv rows)))
      (pairs-put mv own held-own same-held S moved-clear (λ u k. right (before-front u k)) (λ u k. left (before-front u k)) q same-q rows (pairs-fewer q rows (forged-pairs (length held) rows valid)) stay))
    where
      reach : (w : Row) → (w ≡ own) ⊎ ((v : Row) × Memᴰ v (held_rows (put_first q free_row rows)) × (w ≡ mv v)) → w.start + w.size ≤ length held
      reach w (inl e) = subst (λ (y : Row). y.start + y.size ≤ length held) (sym e) fits
      reach w (inr x) = subst (λ (y : Row). y.start + y.size ≤ length held) (sym x.2) (let b = before-front x.0 (stay x.0 x.1) in omega arith)

  -- no place is outside the buffer or over another
  pub set-valid : forged (length (fronted held (front ++ new))) (put n own (map mv rows)) ≡ false
  unfolding put fronted
  set-valid = ap (λ (k : ℕ). forged k (cond (any (is_named n) (map mv rows)) (put_first (is_named n) own (map mv rows)) (put_first is_free own (map mv rows)))) same_length
      ∙ go (any (is_named n) (map mv rows)) refl
    where
      same_length : length ((front ++ new) ++ drop (length (front ++ new)) held) ≡ length held
      same_length = let l = length-append front new in length_front held (front ++ new) (length (front ++ new)) (sym (length-take-le (length (front ++ new)) held (omega arith)))

      unnamed : any (is_named n) (map mv rows) ≡ false → (u : Row) → Memᴰ u rows → (t : Bool) → is_named n u ≡ t → t ≡ false
      unnamed q u m true e = absurd (any_none (is_named n) (map mv rows) q (Memᴰ.map mv m) (same-named u ∙ e))
      unnamed q u m false e = refl

      free-stay : any (is_named n) (map mv rows) ≡ false → (u : Row) → Memᴰ u (held_rows (put_first is_free free_row rows)) → S u
      free-stay q u m = stay-in q u (of-held u m)
        where
          of-held : (u : Row) → Memᴰ u (held_rows (put_first is_free free_row rows)) → Memᴰ u (put_first is_free free_row rows) × (is_held u ≡ true)
          of-held u m = held_in (put_first is_free free_row rows) u m

          stay-in : any (is_named n) (map mv rows) ≡ false → (u : Row) → Memᴰ u (put_first is_free free_row rows) × (is_held u ≡ true) → S u
          stay-in q u x = in-others u (not_free (from-put_first is_free free_row rows u x.0) x.1) x.1
            where
              not_free : (u ≡ free_row) ⊎ Memᴰ u rows → is_held u ≡ true → Memᴰ u rows
              not_free (inl e) k = absurd (false≢true (sym free-not-held ∙ ap is_held (sym e) ∙ k))
              not_free (inr m) k = m

              in-others : (u : Row) → Memᴰ u rows → is_held u ≡ true → S u
              in-others u m k = other-in n rows u m (unnamed q u m (is_named n u) refl) k

      go : (t : Bool) → any (is_named n) (map mv rows) ≡ t → forged (length held) (cond t (put_first (is_named n) own (map mv rows)) (put_first is_free own (map mv rows))) ≡ false
      go true q = all_fit (is_named n) same-named (λ u m. named-stay n rows u m)
      go false q = all_fit is_free (λ u. ap not (same-held u)) (free-stay q)
