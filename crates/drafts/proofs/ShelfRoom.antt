-- 02, W-211: what 10 measures is the sum of the sizes of the drafts then held. Assumes nothing.
use mathlib.Core.Path.{◌≡◌, refl, sym, ap, ap₂, ◌∙◌}
use mathlib.Core.List.{List, [], ◌∷◌, ◌++◌, Memᴰ}
use mathlib.Core.Logic.{◌⊎◌, inl, inr}
use mathlib.Core.Bool.{Bool, true, false, ◌&&◌, ◌||◌, cond, false≢true}
use Prim.Native.Nat.{ℕ, ◌+◌, ◌≤◌, ◌<◌}
use native.Mathlib.Omega.{arith}
use lib.ListN.{length, take, drop, length-append, length-drop, take-append-drop}
use lib.Seq.{length-take-le}
use lib.Dec.{leb, ltb}
use borrow.Author.Tests.{leb-true, ltb-true, le-leb, lt-ltb, le-ltb, lt-leb}
use Rattle.record.specs.Base.{Str, any}
use Rattle.record.proofs.Basics.{both, any_some, filter-mem}
use Rattle.drafts.specs.Packing.{kept}
use Rattle.drafts.specs.Shelf.{Row, is_held, is_named, held_rows, forged, free_row, put_first, others, in_place, staying, closed}
use Rattle.drafts.proofs.Pools.{kept_append, kept-all}
use Rattle.drafts.proofs.ShelfLaws.{not-outside}
use Rattle.drafts.proofs.ShelfPlaces.{Clear, left, right, empty-a, empty-b, Pairwise, pairs-fewer, forged-pairs, from-put_first, held_in, free-not-held}

unfoldable pub sizes : List Row → ℕ
sizes [] = 0
sizes (r ∷ rows) = r.size + sizes rows

pub kept-none : (c : ℕ → Bool) (i : ℕ) (a : Str) → ((j : ℕ) → i ≤ j → j < i + length a → c j ≡ false) → kept c i a ≡ []
unfolding kept
kept-none c i [] h = refl
kept-none c i (x ∷ a) h = rw (h i (omega arith) (omega arith)) (kept-none c (i + 1) a (λ j p q. h j (omega arith) (omega arith)))

-- two tests that never hold together
pub kept-both : (c d e : ℕ → Bool) → ((j : ℕ) → e j ≡ (c j || d j)) → ((j : ℕ) → c j ≡ true → d j ≡ true → ⊥) → (i : ℕ) (p : Str) → length (kept e i p) ≡ length (kept c i p) + length (kept d i p)
unfolding kept
kept-both c d e same never i [] = refl
kept-both c d e same never i (x ∷ p) = rw (same i) (go (c i) refl (d i) refl (kept-both c d e same never (i + 1) p))
  where
    go : (t : Bool) → c i ≡ t → (u : Bool) → d i ≡ u → length (kept e (i + 1) p) ≡ length (kept c (i + 1) p) + length (kept d (i + 1) p)
        → length (cond (t || u) (x ∷ kept e (i + 1) p) (kept e (i + 1) p)) ≡ length (cond t (x ∷ kept c (i + 1) p) (kept c (i + 1) p)) + length (cond u (x ∷ kept d (i + 1) p) (kept d (i + 1) p))
    go true a true b h = absurd (never i a b)
    go true a false b h = omega arith
    go false a true b h = omega arith
    go false a false b h = h

module _ (r : Row) where
  pub in-here : (j : ℕ) → r.start ≤ j → j < r.start + r.size → in_place j r ≡ true
  unfolding in_place
  in-here j a b = rw (le-leb r.start j a, lt-ltb j (r.start + r.size) b)

  pub in-before : (j : ℕ) → j < r.start → in_place j r ≡ false
  unfolding in_place
  in-before j a = rw (lt-leb r.start j a)

  pub in_after : (j : ℕ) → r.start + r.size ≤ j → in_place j r ≡ false
  unfolding in_place
  in_after j a = rw (le-ltb j (r.start + r.size) a) (go (leb r.start j))
    where
      go : (t : Bool) → (t && false) ≡ false
      go true = refl
      go false = refl

  in_bounds : (j : ℕ) → in_place j r ≡ true → (r.start ≤ j) × (j < r.start + r.size)
  unfolding in_place
  in_bounds j h = let x = both (leb r.start j) (ltb j (r.start + r.size)) h in (leb-true r.start j x.0, ltb-true j (r.start + r.size) x.1)

  -- a place has as many bytes as its size
  one_place : (p : Str) → r.start + r.size ≤ length p → length (kept (λ i. in_place i r) 0 p) ≡ r.size
  one_place p h =
      let c : ℕ → Bool = λ i. in_place i r in
      let a = r.start in
      let l = r.size in
      let q : Str = drop a p in
      let n : length (take a p) ≡ a = length-take-le a p (omega arith) in
      let m : length (take l q) ≡ l = length-take-le l q (simp length-drop (omega arith)) in
      let e1 : kept c 0 p ≡ kept c 0 (take a p) ++ kept c (0 + length (take a p)) q = ap (kept c 0) (sym (take-append-drop a p)) ∙ kept_append c 0 (take a p) q in
      let e2 : kept c (0 + length (take a p)) q ≡ kept c (0 + length (take a p)) (take l q) ++ kept c (0 + length (take a p) + length (take l q)) (drop l q) =
      ap (kept c (0 + length (take a p))) (sym (take-append-drop l q)) ∙ kept_append c (0 + length (take a p)) (take l q) (drop l q) in
      let f1 = kept-none c 0 (take a p) (λ j x y. in-before j (omega arith)) in
      let f2 = kept-all c (0 + length (take a p)) (take l q) (λ j x y. in-here j (omega arith) (omega arith)) in
      let f3 = kept-none c (0 + length (take a p) + length (take l q)) (drop l q) (λ j x y. in_after j (omega arith)) in
      ap length (e1 ∙ ap₂ (λ (x y : Str). x ++ y) f1 (e2 ∙ ap₂ (λ (x y : Str). x ++ y) f2 f3)) ∙ length-append (take l q) [] ∙ (let z = m in omega arith)

-- places that do not meet have no byte together
pub no_byte : (r u : Row) (j : ℕ) → Clear r u → in_place j r ≡ true → in_place j u ≡ true → ⊥
no_byte r u j c a b = go c (in_bounds r j a) (in_bounds u j b)
  where
    go : Clear r u → (r.start ≤ j) × (j < r.start + r.size) → (u.start ≤ j) × (j < u.start + u.size) → ⊥
    go (left h) x y = let x1 = x.1 in let y0 = y.0 in omega arith
    go (right h) x y = let x0 = x.0 in let y1 = y.1 in omega arith
    go (empty-a h) x y = let x0 = x.0 in let x1 = x.1 in omega arith
    go (empty-b h) x y = let y0 = y.0 in let y1 = y.1 in omega arith

many : (p : Str) (rows : List Row) → Pairwise rows → ((u : Row) → Memᴰ u rows → u.start + u.size ≤ length p) → length (kept (λ i. any (λ (r : Row). in_place i r) rows) 0 p) ≡ sizes rows
unfolding sizes any
many p [] h k = ap length (kept-none (λ i. false) 0 p (λ j x y. refl))
many p (r ∷ rows) h k =
    kept-both (λ i. in_place i r) (λ i. any (λ (u : Row). in_place i u) rows) (λ i. in_place i r || any (λ (u : Row). in_place i u) rows) (λ j. refl)
    (λ j a b. let x = any_some (λ (u : Row). in_place j u) rows b in no_byte r x.0 j (h.0 x.0 x.1) a x.2) 0 p
    ∙ ap₂ (λ (x y : ℕ). x + y) (one_place r p (k r (Memᴰ.head refl))) (many p rows h.1 (λ u m. k u (Memᴰ.tail m)))

into-held : (l : List Row) (u : Row) → Memᴰ u l → is_held u ≡ true → Memᴰ u (held_rows l)
unfolding held_rows
into-held l u m k = filter-mem is_held l m k

-- of a shelf whose places are good: the drafts that stay take the sum of their sizes
module _ (rows : List Row) (held n : Str) (valid : forged (length held) rows ≡ false) where
  were-held : (u : Row) → Memᴰ u (others n rows) → Memᴰ u (held_rows rows)
  unfolding others
  were-held u m = let x = held_in (put_first (is_named n) free_row rows) u m in is (from-put_first (is_named n) free_row rows u x.0) x.1
    where
      is : (u ≡ free_row) ⊎ Memᴰ u rows → is_held u ≡ true → Memᴰ u (held_rows rows)
      is (inl e) k = absurd (false≢true (sym free-not-held ∙ ap is_held (sym e) ∙ k))
      is (inr m) k = into-held rows u m k

  pub closed-many : length (closed n rows held) ≡ sizes (others n rows)
  unfolding closed staying others
  closed-many = many held (others n rows) (pairs-fewer (is_named n) rows (forged-pairs (length held) rows valid)) (λ u m. not-outside (length held) rows u valid (were-held u m))
