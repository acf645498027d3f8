-- A turn of each loop of the sort, and of the loop that keeps the last of each name. Assumes nothing.
use Prim.Native.Nat.{ℕ, zero, suc, ◌+◌, ◌-◌, ◌≤◌, ◌<◌}
use mathlib.Core.List.{List, [], ◌∷◌, ◌++◌, append_assoc, append-nil}
use mathlib.Core.Bool.{Bool, true, false, ◌&&◌, false≢true}
use mathlib.Core.Path.{◌≡◌, refl, sym, ap, subst, ◌∙◌}
use native.Mathlib.Omega.{arith}
use native.Mathlib.Numerals.{add-one}
use native.Mathlib.Nat.{zero-add}
use lib.ListN.{length, take, drop, get_or, set, length-append, length-set, length-drop, drop_of_length-le}
use lib.Seq.{take_all, take-suc-set, drop-set-lt, length-take-le, drop-drop, drop-cons, take_at, take-take, take-nil}
use lib.Dec.{ltb}
use borrow.Author.Tests.{ltb-true, ltb-false}
use borrow.Rule.Slice.PartMut.{put_mid, mid_of, same_len_mid}
use Rattle.std.specs.List.{IsAllAdjacentAnswer}
use Rattle.record.specs.Base.{Str, before}
use Rattle.layout.specs.Sort.{arranged, merge, merge_with, second_next, chunks, halves, Bounded, ends_run, lasts, ascends}
use Rattle.layout.proofs.Merging.{length-merge}
use Rattle.layout.proofs.Chunks.{chunks-step, chunks-nil, chunks-one, halves-nil, pass-is, arranged-whole}

module _ (key : ℕ → Str) (left right : List ℕ) (i j : ℕ) where
  pub second-over : length left ≤ i → true ≡ second_next key (drop i left) (drop j right)
  unfolding second_next
  second-over h = rw (drop_of_length-le left {i = i} h)

  pub second_none : i < length left → length right ≤ j → false ≡ second_next key (drop i left) (drop j right)
  unfolding second_next
  second_none h k = rw (drop-cons left i 0 h, drop_of_length-le right {i = j} k)

  pub second_is : (r : Bool) → i < length left → j < length right → r ≡ before (key (get_or right j 0)) (key (get_or left i 0)) → r ≡ second_next key (drop i left) (drop j right)
  unfolding second_next
  second_is r h k e = e ∙ rw (drop-cons left i 0 h, drop-cons right j 0 k)

pub ruleset second-laws = (second-over, second_none, second_is)

module _ (key : ℕ → Str) where
  next-right : (y : ℕ) (xs ys : List ℕ) → second_next key xs (y ∷ ys) ≡ true → merge key xs (y ∷ ys) ≡ y ∷ merge key xs ys
  unfolding merge merge_with second_next
  next-right y [] ys e = refl
  next-right y (x ∷ xs) ys e = rw e

  next-left : (x : ℕ) (xs ys : List ℕ) → second_next key (x ∷ xs) ys ≡ false → merge key (x ∷ xs) ys ≡ x ∷ merge key xs ys
  unfolding merge merge_with second_next
  next-left x xs [] e = refl
  next-left x xs (y ∷ ys) e = rw e

-- two lists while they are merged: what is written, and what is left of both
pub record Merged (key : ℕ → Str) (left right out : List ℕ) (i j : ℕ) : Type 0 where
  pub so_far : take (i + j) out ++ merge key (drop i left) (drop j right) ≡ merge key left right
  pub long : length out ≡ length left + length right
  pub in_left : i ≤ length left
  pub in_right : j ≤ length right

pub merged-start : (key : ℕ → Str) (left right out : List ℕ) → length out ≡ length left + length right → Merged key left right out 0 0
merged-start key left right out h = record { so_far = refl; long = h; in_left = omega arith; in_right = omega arith }

module _ (key : ℕ → Str) (left right out : List ℕ) (i j : ℕ) (m : Merged key left right out i j) where
  -- the next written
  written : (x n : ℕ) (rest : List ℕ) → merge key (drop i left) (drop j right) ≡ x ∷ rest → suc (i + j) ≡ n → i + j < length out → take n (set out (i + j) x) ++ rest ≡ merge key left right
  written x n rest e q h =
      subst (λ (k : ℕ). take k (set out (i + j) x) ++ rest ≡ merge key left right) q
      (rw (take-suc-set out (i + j) x h, append_assoc) (subst (λ (l : List ℕ). take (i + j) out ++ l ≡ merge key left right) e m.so_far))

  pub merged-end : length out ≤ i + j → out ≡ merge key left right
  unfolding merge
  merged-end h =
      let l = m.long in
      let a = m.in_left in
      let b = m.in_right in
      let p : drop i left ≡ [] = drop_of_length-le left {i = i} (omega arith) in
      let q : drop j right ≡ [] = drop_of_length-le right {i = j} (omega arith) in
      sym (take_all (i + j) out h) ∙ sym (append-nil (take (i + j) out)) ∙ rw (p, q) at m.so_far

  module _ (b : Bool) (h : i + j < length out) (e : b ≡ second_next key (drop i left) (drop j right)) where
    pub right-inside : b ≡ true → j < length right
    right-inside t = go (ltb j (length right)) refl
      where
        go : (c : Bool) → ltb j (length right) ≡ c → j < length right
        go true f = ltb-true j (length right) f
        go false f =
            let k = ltb-false j (length right) f in
            let l = m.long in
            let r = m.in_right in
            absurd (false≢true (second_none key left right i j (omega arith) k ∙ sym e ∙ t))

    pub left-inside : b ≡ false → i < length left
    left-inside t = go (ltb i (length left)) refl
      where
        go : (c : Bool) → ltb i (length left) ≡ c → i < length left
        go true f = ltb-true i (length left) f
        go false f = absurd (false≢true (sym t ∙ e ∙ sym (second-over key left right i j (ltb-false i (length left) f))))

    pub merged-right : b ≡ true → Merged key left right (set out (i + j) (get_or right j 0)) i (j + 1)
    merged-right t =
        let k = right-inside t in
        let d = drop-cons right j 0 k in
        let s : second_next key (drop i left) (get_or right j 0 ∷ drop (suc j) right) ≡ true = ap (second_next key (drop i left)) (sym d) ∙ sym e ∙ t in
        record {
          so_far = written (get_or right j 0) (i + (j + 1)) (merge key (drop i left) (drop (j + 1) right))
              (rw (add-one, d) (next-right key (get_or right j 0) (drop i left) (drop (suc j) right) s)) (omega arith) h;
          long = rw length-set m.long;
          in_left = m.in_left;
          in_right = omega arith;
        }

    pub merged-left : b ≡ false → Merged key left right (set out (i + j) (get_or left i 0)) (i + 1) j
    merged-left t =
        let k = left-inside t in
        let d = drop-cons left i 0 k in
        let s : second_next key (get_or left i 0 ∷ drop (suc i) left) (drop j right) ≡ false = ap (λ (l : List ℕ). second_next key l (drop j right)) (sym d) ∙ sym e ∙ t in
        record {
          so_far = written (get_or left i 0) (i + 1 + j) (merge key (drop (i + 1) left) (drop j right))
              (rw (add-one, d) (next-left key (get_or left i 0) (drop (suc i) left) (drop j right) s)) (omega arith) h;
          long = rw length-set m.long;
          in_left = omega arith;
          in_right = m.in_right;
        }

-- the stretches passed, and those that are left
pub record Passed (key : ℕ → Str) (w : ℕ) (src dst : List ℕ) (lo : ℕ) : Type 0 where
  pub so_far : take lo dst ++ chunks (halves key w) (w + w) (drop lo src) ≡ chunks (halves key w) (w + w) src
  pub inside : lo ≤ length src
  pub long : length dst ≡ length src

drop-take : (w v : ℕ) (l : List ℕ) → drop w (take (w + v) l) ≡ take v (drop w l)
drop-take zero v l = ap (λ (n : ℕ). take n l) (zero-add v)
drop-take (suc w) v [] = rw take-nil (sym (take-nil v))
drop-take (suc w) v (x ∷ l) =
    let e : suc w + v ≡ suc (w + v) = omega arith in
    ap (λ (n : ℕ). drop (suc w) (take n (x ∷ l))) e ∙ drop-take w v l

module _ (l : List ℕ) (a w r : ℕ) (b : Bounded a w (length l) r) where
  cut : take (r - a) (drop a l) ≡ take w (drop a l)
  cut = go (ltb r (a + w)) refl
    where
      go : (t : Bool) → ltb r (a + w) ≡ t → take (r - a) (drop a l) ≡ take w (drop a l)
      go true e =
          let h : r < a + w = ltb-true r (a + w) e in
          let n : r ≡ length l = b.else-end h in
          let i : length (drop a l) ≡ length l - a = length-drop a l in
          take_all (r - a) (drop a l) (omega arith) ∙ sym (take_all w (drop a l) (omega arith))
      go false e =
          let h : a + w ≤ r = ltb-false r (a + w) e in
          let k = b.near in
          let q : r - a ≡ w = omega arith in
          rw q

  skip : drop r l ≡ drop (a + w) l
  skip = go (ltb r (a + w)) refl
    where
      go : (t : Bool) → ltb r (a + w) ≡ t → drop r l ≡ drop (a + w) l
      go true e =
          let h : r < a + w = ltb-true r (a + w) e in
          let n : r ≡ length l = b.else-end h in
          let p : length l ≤ r = omega arith in
          let q : length l ≤ a + w = omega arith in
          drop_of_length-le l p ∙ sym (drop_of_length-le l q)
      go false e =
          let h : a + w ≤ r = ltb-false r (a + w) e in
          let k = b.near in
          let q : r ≡ a + w = omega arith in
          rw q

module _ (key : ℕ → Str) (w : ℕ) (src dst : List ℕ) (lo mid hi : ℕ) (p : Passed key w src dst lo) (some : 0 < w) (b : Bounded lo w (length src) mid) (d : Bounded mid w (length src) hi) where
  next-stretch : merge key (take (mid - lo) (drop lo src)) (take (hi - mid) (drop mid src)) ≡ halves key w (take (w + w) (drop lo src))
  unfolding halves
  next-stretch =
      rw (cut src lo w mid b, cut src mid w hi d, skip src lo w mid b, ← drop-drop w lo src, take-take w (w + w) (drop lo src) (omega arith), drop-take w w (drop lo src))

  next_start : drop hi src ≡ drop (w + w) (drop lo src)
  next_start = skip src mid w hi d ∙ sym (drop-drop w mid src) ∙ ap (drop w) (skip src lo w mid b ∙ sym (drop-drop w lo src)) ∙ drop-drop w w (drop lo src)

  pub pass-nearer : lo < length src → length src - hi < length src - lo
  pass-nearer h = go (ltb mid (lo + w)) refl
    where
      go : (t : Bool) → ltb mid (lo + w) ≡ t → length src - hi < length src - lo
      go true e = let n = b.else-end (ltb-true mid (lo + w) e) in let m = d.above in let k = d.within in omega arith
      go false e = let n = ltb-false mid (lo + w) e in let m = d.above in let k = d.within in omega arith

  pub passed-step : (out : List ℕ) → lo < length src → out ≡ merge key (take (mid - lo) (drop lo src)) (take (hi - mid) (drop mid src)) → Passed key w src (put_mid lo (hi - lo) dst out) hi
  passed-step out h e =
      let l : length dst ≡ length src = p.long in
      let i : lo ≤ length src = p.inside in
      let x = b.above in
      let y = d.above in
      let z = d.within in
      let u : length (take lo dst) ≡ lo = length-take-le lo dst (omega arith) in
      let a1 : length (take (mid - lo) (drop lo src)) ≡ mid - lo = length-take-le (mid - lo) (drop lo src) (rw length-drop (omega arith)) in
      let a2 : length (take (hi - mid) (drop mid src)) ≡ hi - mid = length-take-le (hi - mid) (drop mid src) (rw length-drop (omega arith)) in
      let o : length out ≡ hi - lo = ap length e ∙ length-merge key (take (mid - lo) (drop lo src)) (take (hi - mid) (drop mid src)) ∙ omega arith in
      let v : length (take lo dst ++ out) ≡ hi = rw length-append (omega arith) in
      let m : length (mid_of lo (hi - lo) dst) ≡ hi - lo = length-take-le (hi - lo) (drop lo dst) (rw length-drop (omega arith)) in
      record {
        so_far =
            rw (
              ← append_assoc (take lo dst) out (drop (hi - lo) (drop lo dst)),
              take_at (take lo dst ++ out) (drop (hi - lo) (drop lo dst)) hi v,
              append_assoc,
              e,
              next-stretch,
              next_start,
              ← chunks-step (halves key w) (halves-nil key w) (w + w) (omega arith) (drop lo src),
            ) p.so_far;
        inside = d.within;
        long = same_len_mid lo (hi - lo) dst out (o ∙ sym m) ∙ l;
      }

pub passed-end : (key : ℕ → Str) (w : ℕ) (src dst : List ℕ) (lo : ℕ) → Passed key w src dst lo → 0 < w → length src ≤ lo → dst ≡ chunks (halves key w) (w + w) src
passed-end key w src dst lo p some h =
    let l = p.long in
    sym (take_all lo dst (omega arith)) ∙ sym (append-nil (take lo dst))
    ∙ subst (λ (r : List ℕ). take lo dst ++ r ≡ chunks (halves key w) (w + w) src) (ap (chunks (halves key w) (w + w)) (drop_of_length-le src h) ∙ chunks-nil (halves key w) (halves-nil key w) (w + w) (omega arith)) p.so_far

-- the sort while it goes on: stretches of w are arranged
pub sort-turn : (key : ℕ → Str) (l a b c : List ℕ) (w : ℕ) → 0 < w → a ≡ chunks (arranged key) w l → b ≡ chunks (halves key w) (w + w) a → c ≡ chunks (halves key (w + w)) ((w + w) + (w + w)) b
    → c ≡ chunks (arranged key) ((w + w) + (w + w)) l
sort-turn key l a b c w some e f g = g ∙ rw (f, e, pass-is key w some l) (pass-is key (w + w) (omega arith) l)

pub sort-start : (key : ℕ → Str) (l : List ℕ) → l ≡ chunks (arranged key) 1 l
sort-start key l = sym (chunks-one key l)

pub sort-end : (key : ℕ → Str) (l a : List ℕ) (w : ℕ) → 0 < w → a ≡ chunks (arranged key) w l → length a ≡ length l → length a ≤ w → a ≡ arranged key l
sort-end key l a w some e n h = e ∙ arranged-whole key w some l (omega arith)

-- the last of each name ---------------------------------------------------------------------------------------------------

module _ (key : ℕ → Str) (l : List ℕ) (i : ℕ) where
  pub run_end : i < length l → length l ≤ i + 1 → true ≡ ends_run key (drop i l)
  unfolding ends_run
  run_end h k = let d : drop (suc i) l ≡ [] = drop_of_length-le l {i = suc i} (omega arith) in rw (drop-cons l i 0 h, d)

  pub run-next : (r : Bool) → i + 1 < length l → r ≡ before (key (get_or l i 0)) (key (get_or l (i + 1) 0)) → r ≡ ends_run key (drop i l)
  unfolding ends_run
  run-next r h e = e ∙ rw (add-one, drop-cons l i 0 (omega arith), drop-cons l (suc i) 0 (omega arith))

  lasts-take : i < length l → ends_run key (drop i l) ≡ true → lasts key (drop i l) ≡ get_or l i 0 ∷ lasts key (drop (i + 1) l)
  unfolding lasts
  lasts-take h e = rw (add-one, drop-cons l i 0 h) (let k : ends_run key (get_or l i 0 ∷ drop (suc i) l) ≡ true = rw (drop-cons l i 0 h) at e in rw k)

  lasts-pass : i < length l → ends_run key (drop i l) ≡ false → lasts key (drop i l) ≡ lasts key (drop (i + 1) l)
  unfolding lasts
  lasts-pass h e = rw (add-one, drop-cons l i 0 h) (let k : ends_run key (get_or l i 0 ∷ drop (suc i) l) ≡ false = rw (drop-cons l i 0 h) at e in rw k)

-- what is kept, and what is left
pub record Keeping (key : ℕ → Str) (l out : List ℕ) (i n : ℕ) : Type 0 where
  pub so_far : take n out ++ lasts key (drop i out) ≡ lasts key l
  pub behind : n ≤ i
  pub inside : i ≤ length out
  pub long : length out ≡ length l

pub keep-start : (key : ℕ → Str) (l : List ℕ) → Keeping key l l 0 0
keep-start key l = record { so_far = refl; behind = omega arith; inside = omega arith; long = refl }

module _ (key : ℕ → Str) (l out : List ℕ) (i n : ℕ) (k : Keeping key l out i n) where
  pub keep-take : (b : Bool) → i < length out → b ≡ ends_run key (drop i out) → b ≡ true → Keeping key l (set out n (get_or out i 0)) (i + 1) (n + 1)
  keep-take b h e t =
      let a = k.behind in
      record {
        so_far =
            rw (drop-set-lt (i + 1) out n (get_or out i 0) (omega arith), add-one n, take-suc-set out n (get_or out i 0) (omega arith), append_assoc)
            (subst (λ (r : List ℕ). take n out ++ r ≡ lasts key l) (lasts-take key out i h (sym e ∙ t)) k.so_far);
        behind = omega arith;
        inside = rw length-set (omega arith);
        long = rw length-set k.long;
      }

  pub keep-pass : (b : Bool) → i < length out → b ≡ ends_run key (drop i out) → b ≡ false → Keeping key l out (i + 1) n
  keep-pass b h e t =
      let a = k.behind in
      record {
        so_far = subst (λ (r : List ℕ). take n out ++ r ≡ lasts key l) (lasts-pass key out i h (sym e ∙ t)) k.so_far;
        behind = omega arith;
        inside = omega arith;
        long = k.long;
      }

  pub keep-end : length out ≤ i → take n out ≡ lasts key l
  unfolding lasts
  keep-end h = sym (append-nil (take n out)) ∙ subst (λ (r : List ℕ). take n out ++ r ≡ lasts key l) (ap (lasts key) (drop_of_length-le out h)) k.so_far

-- each before the next ----------------------------------------------------------------------------------------------------

module _ (key : ℕ → Str) where
  all-up : (l : List ℕ) → ((k : ℕ) → suc k < length l → true ≡ before (key (get_or l k 0)) (key (get_or l (suc k) 0))) → true ≡ ascends key l
  unfolding ascends ends_run
  all-up [] h = refl
  all-up (x ∷ []) h = refl
  all-up (x ∷ y ∷ l) h = rw (← h 0 (omega arith)) (all-up (y ∷ l) (λ k p. h (suc k) (omega arith)))

  one-down : (l : List ℕ) (k : ℕ) → suc k < length l → false ≡ before (key (get_or l k 0)) (key (get_or l (suc k) 0)) → false ≡ ascends key l
  unfolding ascends ends_run
  one-down [] k h e = absurd (omega arith)
  one-down (x ∷ []) k h e = absurd (omega arith)
  one-down (x ∷ y ∷ l) zero h e = rw (← e)
  one-down (x ∷ y ∷ l) (suc k) h e = go (before (key x) (key y)) (one-down (y ∷ l) k (omega arith) e)
    where
      go : (b : Bool) → false ≡ ascends key (y ∷ l) → false ≡ (b && ascends key (y ∷ l))
      go true f = f
      go false f = refl

  -- what was asked of each and the next
  pub ascends-asked : (l : List ℕ) (r : Bool) → IsAllAdjacentAnswer (λ x y b. b ≡ before (key x) (key y)) l r → r ≡ ascends key l
  ascends-asked l true h = all-up l (λ k p. subst (λ (n : ℕ). true ≡ before (key (get_or l k 0)) (key (get_or l n 0))) (add-one k) (h k 0 (omega arith)))
  ascends-asked l false h =
      let p = h.1 in
      one-down l h.0 (omega arith) (subst (λ (n : ℕ). false ≡ before (key (get_or l h.0 0)) (key (get_or l n 0))) (add-one h.0) (h.2 0))
