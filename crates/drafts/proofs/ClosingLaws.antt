-- The places that stay: their sizes, how many of their bytes stand before an end, and their bytes moved to the front. Assumes nothing.
use mathlib.Core.Path.{◌≡◌, refl, sym, ap, ap₂, ◌∙◌}
use mathlib.Core.List.{List, [], ◌∷◌, ◌++◌, map, append_assoc, append-nil}
use mathlib.Core.Logic.{◌⊎◌, inl, inr}
use mathlib.Core.Bool.{Bool, true, false, ◌||◌, cond}
use Prim.Native.Nat.{ℕ, zero, suc, ◌+◌, ◌-◌, ◌≤◌, ◌<◌, min}
use native.Mathlib.Omega.{arith}
use lib.ListN.{length, get_or, take, drop, set, length-append, length-set, length-map, get_or-map}
use lib.Seq.{take_all, take-suc, take-suc-set, drop-cons, length-take-le, get_or-append-add, get_or-drop, set_at}
use lib.Dec.{ltb}
use borrow.Author.Tests.{eq-eqb, ne_eqb, le-ltb, lt-ltb, ltb-true, ltb-false}
use Rattle.record.specs.Base.{Str}
use Rattle.record.specs.Fill.{fronted}
use Rattle.drafts.specs.Packing.{kept}
use Rattle.drafts.specs.Shelf.{is_held, in_place}
use Rattle.drafts.specs.Shelving.{row_at, rows_of, place_row, size_row, held_size, covering, bytes_before, all_before, Spaced, least, starts_after}
use Rattle.drafts.specs.declared.shelved.Shelf.{Shelf}
use Rattle.drafts.proofs.Pools.{kept_append}
use Rattle.drafts.proofs.RowLaws.{rows_long, rows_at}

-- a list filled from its front ----------------------------------------------------------------------------------------------

pub record Filling (whole xs : List ℕ) (i : ℕ) : Type 0 where
  pub long : length xs ≡ length whole
  pub front : take i xs ≡ take i whole

pub filling-start : (whole xs : List ℕ) → length xs ≡ length whole → Filling whole xs 0
filling-start whole xs h = record { long = h; front = refl }

pub filling-on : (whole xs : List ℕ) (i v : ℕ) → Filling whole xs i → i < length whole → v ≡ get_or whole i 0 → Filling whole (set xs i v) (i + 1)
filling-on whole xs i v f h e =
    let l = f.long in
    let n : i + 1 ≡ suc i = omega arith in
    record {
      long = length-set xs i v ∙ f.long;
      front = ap (λ (k : ℕ). take k (set xs i v)) n ∙ take-suc-set xs i v (omega arith) ∙ ap₂ (λ (x : List ℕ) (y : ℕ). x ++ y ∷ []) f.front e
          ∙ sym (take-suc whole i 0 h) ∙ ap (λ (k : ℕ). take k whole) (sym n);
    }

pub filling-end : (whole xs : List ℕ) (i : ℕ) → Filling whole xs i → length whole ≤ i → xs ≡ whole
filling-end whole xs i f h = let l = f.long in sym (take_all i xs (omega arith)) ∙ f.front ∙ take_all i whole h

-- sizes ---------------------------------------------------------------------------------------------------------------------

pub size-free : (k n : ℕ) → k ≡ 0 → 0 ≡ held_size (size_row k n)
unfolding held_size is_held
size-free k n h = rw (eq-eqb k 0 h)

pub size-held : (k n : ℕ) → (k ≡ 0 → ⊥) → n ≡ held_size (size_row k n)
unfolding held_size is_held
size-held k n h = rw (ne_eqb k 0 h)

module _ (s : Shelf) where
  sizes-long : length (map held_size (rows_of s)) ≡ 8
  sizes-long = length-map (rows_of s) held_size ∙ rows_long s

  size-at : (i : ℕ) → i < 8 → get_or (map held_size (rows_of s)) i 0 ≡ held_size (row_at s i)
  unfolding held_size is_held
  size-at i h = get_or-map held_size (rows_of s) i (size_row 0 0) ∙ ap held_size (rows_at s i (size_row 0 0) h)

  pub sizes-start : (xs : List ℕ) → length xs ≡ 8 → Filling (map held_size (rows_of s)) xs 0
  sizes-start xs h = filling-start (map held_size (rows_of s)) xs (h ∙ sym sizes-long)

  pub sizes-on : (xs : List ℕ) (i v : ℕ) → Filling (map held_size (rows_of s)) xs i → i < 8 → v ≡ held_size (size_row (get_or s.name_lens i 0) (get_or s.lens i 0))
      → Filling (map held_size (rows_of s)) (set xs i v) (i + 1)
  unfolding held_size is_held
  sizes-on xs i v f h e =
      let l = sizes-long in
      filling-on (map held_size (rows_of s)) xs i v f (omega arith) (e ∙ sym (size-at i h))

  pub sizes-end : (xs : List ℕ) (i : ℕ) → Filling (map held_size (rows_of s)) xs i → 8 ≤ i → xs ≡ map held_size (rows_of s)
  sizes-end xs i f h = let l = sizes-long in filling-end (map held_size (rows_of s)) xs i f (omega arith)

pub size-but : (xs ys : List ℕ) (row : ℕ) → xs ≡ ys → set xs row 0 ≡ set ys row 0
size-but xs ys row e = ap (λ (l : List ℕ). set l row 0) e

-- which bytes lie in a place ------------------------------------------------------------------------------------------------

module _ (starts sizes : List ℕ) (at : ℕ) where
  module _ (a z : ℕ) (xs zs : List ℕ) (p : starts ≡ a ∷ xs) (q : sizes ≡ z ∷ zs) (b : Bool) (e : b ≡ in_place at (place_row a z)) where
    covering-on : covering starts sizes at ≡ (b || covering xs zs at)
    unfolding covering in_place
    covering-on = rw (p, q, e)

    pub covers-on : b ≡ false → covering starts sizes at ≡ covering xs zs at
    covers-on f = covering-on ∙ rw f

    pub covers-here : b ≡ true → true ≡ covering starts sizes at
    covers-here f = sym (covering-on ∙ rw f)

  pub covers-end : (starts ≡ []) ⊎ (sizes ≡ []) → false ≡ covering starts sizes at
  unfolding covering
  covers-end (inl e) = rw e
  covers-end (inr e) = rw e (go starts)
    where
      go : (x : List ℕ) → false ≡ covering x [] at
      go [] = refl
      go (a ∷ x) = refl

-- how many bytes stand before an end ----------------------------------------------------------------------------------------

module _ (end start size : ℕ) where
  pub before-none : end < start → 0 ≡ bytes_before end start size
  unfolding bytes_before
  before-none h = rw (lt-ltb end start h)

  pub before-some : start ≤ end → end - start < size → end - start ≡ bytes_before end start size
  unfolding bytes_before
  before-some h k = rw (le-ltb end start h, lt-ltb (end - start) size k)

  pub before-whole : start ≤ end → size ≤ end - start → size ≡ bytes_before end start size
  unfolding bytes_before
  before-whole h k = rw (le-ltb end start h, le-ltb (end - start) size k)

  pub bytes-least : (d r : ℕ) → d ≡ end - start → r ≡ min size d → r ≡ bytes_before end start size
  bytes-least d r e f = go (ltb end start) (ltb (end - start) size) refl refl
    where
      go : (a b : Bool) → ltb end start ≡ a → ltb (end - start) size ≡ b → r ≡ bytes_before end start size
      go true b h k = let x = ltb-true end start h in let z : r ≡ 0 = omega arith in z ∙ before-none x
      go false true h k =
          let x = ltb-false end start h in
          let y = ltb-true (end - start) size k in
          let z : r ≡ end - start = omega arith in
          z ∙ before-some x y
      go false false h k =
          let x = ltb-false end start h in
          let y = ltb-false (end - start) size k in
          let z : r ≡ size = omega arith in
          z ∙ before-whole x y

module _ (starts sizes : List ℕ) (end : ℕ) where
  -- the sum so far, and the places that are left
  abbrev pub SumTo : ℕ → List ℕ → List ℕ → Type 0
  SumTo sum xs zs = sum + all_before xs zs end ≡ all_before starts sizes end

  pub sum-start : (xs zs : List ℕ) → xs ≡ starts → zs ≡ sizes → SumTo 0 xs zs
  sum-start xs zs p q = rw (p, q) (omega arith)

  module _ (sum : ℕ) (left right : List ℕ) (v : SumTo sum left right) where
    module _ (a z : ℕ) (xs zs : List ℕ) (p : left ≡ a ∷ xs) (q : right ≡ z ∷ zs) (x : ℕ) (e : x ≡ bytes_before end a z) where
      before_on : all_before left right end ≡ x + all_before xs zs end
      unfolding all_before
      before_on = rw (p, q, e)

      pub sum-on : SumTo (sum + x) xs zs
      sum-on = let n = before_on in omega arith

      pub sum_fits : Spaced starts sizes → end < 18446744073709551616 → sum + x < 18446744073709551616
      sum_fits s k = let n = before_on in let f = s.few end in omega arith

    none_before : (left ≡ []) ⊎ (right ≡ []) → all_before left right end ≡ 0
    unfolding all_before
    none_before (inl e) = rw e
    none_before (inr e) = rw e (go left)
      where
        go : (x : List ℕ) → all_before x [] end ≡ 0
        go [] = refl
        go (a ∷ x) = refl

    pub sum-end : (left ≡ []) ⊎ (right ≡ []) → sum ≡ all_before starts sizes end
    sum-end h = let n = none_before h in omega arith

pub least-min : (a b r : ℕ) → r ≡ min a b → r ≡ least a b
least-min a b r e = go (ltb a b) refl
  where
    go : (t : Bool) → ltb a b ≡ t → r ≡ cond t a b
    go true h = let k = ltb-true a b h in omega arith
    go false h = let k = ltb-false a b h in omega arith

module _ (starts sizes : List ℕ) (l : length starts ≡ 8) (len : ℕ) where
  moved-long : length (starts_after starts sizes len) ≡ 8
  unfolding starts_after
  moved-long = length-map starts (λ (a : ℕ). all_before starts sizes (least a len)) ∙ l

  pub moved_at : (i : ℕ) → i < 8 → get_or (starts_after starts sizes len) i 0 ≡ all_before starts sizes (least (get_or starts i 0) len)
  unfolding starts_after
  moved_at i h = go starts i (omega arith)
    where
      f : ℕ → ℕ
      f a = all_before starts sizes (least a len)

      go : (xs : List ℕ) (j : ℕ) → j < length xs → get_or (map f xs) j 0 ≡ f (get_or xs j 0)
      go [] j k = absurd (omega arith)
      go (x ∷ xs) zero k = refl
      go (x ∷ xs) (suc j) k = go xs j (omega arith)

  pub moved-start : (xs : List ℕ) → length xs ≡ 8 → Filling (starts_after starts sizes len) xs 0
  moved-start xs h = filling-start (starts_after starts sizes len) xs (h ∙ sym moved-long)

  pub moved_on : (xs : List ℕ) (i v a : ℕ) → Filling (starts_after starts sizes len) xs i → i < 8 → a ≡ least (get_or starts i 0) len → v ≡ all_before starts sizes a
      → Filling (starts_after starts sizes len) (set xs i v) (i + 1)
  moved_on xs i v a f h e g =
      let n = moved-long in
      filling-on (starts_after starts sizes len) xs i v f (omega arith) (g ∙ ap (all_before starts sizes) e ∙ sym (moved_at i h))

  pub moved-end : (xs : List ℕ) (i : ℕ) → Filling (starts_after starts sizes len) xs i → 8 ≤ i → xs ≡ starts_after starts sizes len
  moved-end xs i f h = let n = moved-long in filling-end (starts_after starts sizes len) xs i f (omega arith)

-- bytes moved to the front --------------------------------------------------------------------------------------------------

pub kept-few : (c : ℕ → Bool) (i : ℕ) (a : Str) → length (kept c i a) ≤ length a
unfolding kept
kept-few c i [] = omega arith
kept-few c i (x ∷ a) = go (c i) (kept-few c (i + 1) a)
  where
    go : (t : Bool) → length (kept c (i + 1) a) ≤ length a → length (cond t (x ∷ kept c (i + 1) a) (kept c (i + 1) a)) ≤ suc (length a)
    go true h = omega arith
    go false h = omega arith

module _ (c : ℕ → Bool) (old : Str) where
  pub record Closing (held : Str) (end i : ℕ) : Type 0 where
    pub is : held ≡ fronted old (kept c 0 (take i old))
    pub at : end ≡ length (kept c 0 (take i old))
    pub within : i ≤ length old

  pub closing-start : Closing old 0 0
  unfolding fronted kept
  closing-start = record { is = refl; at = refl; within = omega arith }

  module _ (held : Str) (end i : ℕ) (v : Closing held end i) where
    abbrev front : Str
    front = kept c 0 (take i old)

    front-few : end ≤ i
    front-few = let a = v.at in let w = v.within in let l = length-take-le i old w in let k = kept-few c 0 (take i old) in omega arith

    pub same-long : length held ≡ length old
    unfolding fronted
    same-long =
        let a = v.at in
        let w = v.within in
        let k = front-few in
        ap length v.is ∙ length-append front (drop (length front) old) ∙ (let d = length-drop-is in omega arith)
      where
        length-drop-is : length (drop (length front) old) ≡ length old - length front
        length-drop-is = lib.ListN.length-drop (length front) old

    pub closing-write : i < length held → end < length held
    closing-write h = let k = front-few in omega arith

    pub closing-add : i < length held → length old < 18446744073709551616 → end + 1 < 18446744073709551616
    closing-add h g = let k = front-few in let l = same-long in omega arith

    pub closing-less : i < length held → length old - (i + 1) < length old - i
    closing-less h = let l = same-long in omega arith

    next : i < length old → kept c 0 (take (i + 1) old) ≡ front ++ kept c i (get_or old i 0 ∷ [])
    next h =
        let n : i + 1 ≡ suc i = omega arith in
        let l = length-take-le i old v.within in
        let z : 0 + length (take i old) ≡ i = omega arith in
        ap (λ (k : ℕ). kept c 0 (take k old)) n ∙ ap (kept c 0) (take-suc old i 0 h) ∙ kept_append c 0 (take i old) (get_or old i 0 ∷ [])
        ∙ ap (λ (k : ℕ). front ++ kept c k (get_or old i 0 ∷ [])) z

    byte-is : i < length old → get_or held i 0 ≡ get_or old i 0
    unfolding fronted
    byte-is h =
        let a = v.at in
        let k = front-few in
        let n : i ≡ length front + (i - length front) = omega arith in
        ap (λ (l : Str). get_or l i 0) v.is ∙ ap (λ (j : ℕ). get_or (front ++ drop (length front) old) j 0) n
        ∙ get_or-append-add front (drop (length front) old) (i - length front) 0 ∙ get_or-drop (length front) old (i - length front) 0 ∙ ap (λ (j : ℕ). get_or old j 0) (sym n)

    pub closing-over : (b : Bool) → i < length held → b ≡ c i → b ≡ false → Closing held end (i + 1)
    unfolding kept
    closing-over b h e f =
        let l = same-long in
        let k : i < length old = omega arith in
        let z : kept c 0 (take (i + 1) old) ≡ front = next k ∙ rw (← e, f) (append-nil front) in
        record { is = v.is ∙ ap (fronted old) (sym z); at = v.at ∙ ap length (sym z); within = omega arith }

    pub closing-on : (b : Bool) → i < length held → b ≡ c i → b ≡ true → Closing (set held end (get_or held i 0)) (end + 1) (i + 1)
    unfolding kept fronted
    closing-on b h e f =
        let l = same-long in
        let k : i < length old = omega arith in
        let a = v.at in
        let w = front-few in
        let x : ℕ = get_or old i 0 in
        let z : kept c 0 (take (i + 1) old) ≡ front ++ x ∷ [] = next k ∙ rw (← e, f) in
        let d : drop (length front) old ≡ get_or old (length front) 0 ∷ drop (suc (length front)) old = drop-cons old (length front) 0 (omega arith) in
        let n : length (front ++ x ∷ []) ≡ suc (length front) = length-append front (x ∷ []) ∙ (omega arith) in
        record {
          is = ap₂ (λ (y : Str) (j : ℕ). set y j (get_or held i 0)) (v.is ∙ ap (λ (y : Str). front ++ y) d) a
              ∙ set_at front (get_or old (length front) 0) (drop (suc (length front)) old) (get_or held i 0) (length front) refl
              ∙ ap (λ (y : ℕ). front ++ y ∷ drop (suc (length front)) old) (byte-is k)
              ∙ sym (append_assoc front (x ∷ []) (drop (suc (length front)) old))
              ∙ ap₂ (λ (y : Str) (j : ℕ). y ++ drop j old) (sym z) (sym n ∙ ap length (sym z));
          at = (omega arith) ∙ sym n ∙ ap length (sym z);
          within = omega arith;
        }

    pub closing_end : length held ≤ i → held ≡ fronted old (kept c 0 old)
    closing_end h = let l = same-long in v.is ∙ ap (λ (y : Str). fronted old (kept c 0 y)) (take_all i old (omega arith))
