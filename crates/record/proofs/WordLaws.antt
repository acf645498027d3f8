-- The byte order of texts, by words and from an index on. Assumes nothing.
use Prim.Native.Nat.{ℕ, zero, suc, ◌+◌, ◌*◌, ◌-◌, ◌≤◌, ◌<◌}
use mathlib.Core.Bool.{Bool, true, false, ◌&&◌, ◌||◌, false≢true}
use mathlib.Core.List.{[], ◌∷◌}
use mathlib.Core.Path.{◌≡◌, refl, sym, ap, subst, ◌∙◌}
use native.Mathlib.Omega.{arith}
use native.Mathlib.Numerals.{add-one}
use lib.ListN.{length, drop, get_or, drop_of_length-le, get_or-eq_default}
use lib.Seq.{drop-cons}
use lib.Dec.{eqb, ltb}
use borrow.Author.Tests.{ltb-true, ltb-false, lt-ltb, le-ltb, eq-eqb, ne_eqb, eqb-true}
use Rattle.std.proofs.Common.{Ordering}
use Rattle.std.specs.Ordering.{nat_cmp, is_lt}
use Rattle.std.specs.Cmp.Lexicographic.{slice_cmp}
use Rattle.std.proofs.lemmas.Cmp.{same_from_slice_cmp}
use Rattle.std.proofs.lemmas.Bool.Decides.{nat_tests}
use Rattle.record.specs.Base.{Str, before}
use Rattle.record.specs.Le.{u64_at}
use Rattle.record.specs.Words.{front_at, Fronted, Skipped}
use Rattle.texts.proofs.WordLaws.{Bytes, word-agree}

module _ (a b : Str) (f : Bytes a) (g : Bytes b) where
  pub skip-more : (i n x y : ℕ) → Skipped a b i → x ≡ u64_at a i → y ≡ u64_at b i → x ≡ y → n ≤ length a → n ≤ length b → i ≤ n → 8 ≤ n - i → Skipped a b (i + 8)
  skip-more i n x y s p q e l m z h = record { agree = λ k t. go k t (ltb k i) refl; in-first = omega arith; in-second = omega arith }
    where
      go : (k : ℕ) → k < i + 8 → (c : Bool) → ltb k i ≡ c → get_or a k 0 ≡ get_or b k 0
      go k t true u = s.agree k (ltb-true k i u)
      go k t false u =
          let v = ltb-false k i u in
          let j : i + (k - i) ≡ k = omega arith in
          subst (λ (n : ℕ). get_or a n 0 ≡ get_or b n 0) j (word-agree a b f g i (sym p ∙ e ∙ q) (k - i) (omega arith))

-- two texts compared from an index on
module _ (a b : Str) (i : ℕ) where
  pub before-next : i < length a → i < length b → get_or b i 0 ≤ get_or a i 0 → get_or a i 0 ≤ get_or b i 0 → before (drop i a) (drop i b) ≡ before (drop (i + 1) a) (drop (i + 1) b)
  unfolding before
  before-next p q h k =
      rw (add-one, drop-cons a i 0, drop-cons b i 0, le-ltb (get_or a i 0) (get_or b i 0) h, eq-eqb (get_or a i 0) (get_or b i 0) (let e : get_or a i 0 ≡ get_or b i 0 = omega arith in e))

  pub before-below : i < length a → i < length b → get_or a i 0 < get_or b i 0 → before (drop i a) (drop i b) ≡ true
  unfolding before
  before-below p q h = rw (drop-cons a i 0, drop-cons b i 0, lt-ltb (get_or a i 0) (get_or b i 0) h)

  pub before_above : i < length a → i < length b → get_or b i 0 < get_or a i 0 → before (drop i a) (drop i b) ≡ false
  unfolding before
  before_above p q h =
      let m : get_or a i 0 ≡ get_or b i 0 → ⊥ = λ e. omega arith in
      rw (drop-cons a i 0, drop-cons b i 0, le-ltb (get_or a i 0) (get_or b i 0) (omega arith), ne_eqb (get_or a i 0) (get_or b i 0) m)

  pub before-longer : i < length a → length b ≤ i → before (drop i a) (drop i b) ≡ false
  unfolding before
  before-longer p q = rw (drop-cons a i 0, drop_of_length-le b)

  pub before-shorter : length a ≤ i → i < length b → before (drop i a) (drop i b) ≡ true
  unfolding before
  before-shorter p q = rw (drop_of_length-le a, drop-cons b i 0)

  pub before-end : length a ≤ i → length b ≤ i → before (drop i a) (drop i b) ≡ false
  unfolding before
  before-end p q = rw (drop_of_length-le a, drop_of_length-le b)

module _ (a b : Str) where
  pub skip-none : Skipped a b 0
  skip-none = record { agree = λ k t. absurd (omega arith); in-first = omega arith; in-second = omega arith }

  pub before-skip : (i : ℕ) → Skipped a b i → before a b ≡ before (drop i a) (drop i b)
  before-skip zero s = refl
  before-skip (suc i) s =
      let p = s.in-first in
      let q = s.in-second in
      let e = s.agree i (omega arith) in
      let r : Skipped a b i = record { agree = λ k t. s.agree k (omega arith); in-first = omega arith; in-second = omega arith } in
      before-skip i r ∙ before-next a b i (omega arith) (omega arith) (omega arith) (omega arith) ∙ ap (λ (n : ℕ). before (drop n a) (drop n b)) (add-one i)

-- the first four bytes ------------------------------------------------------------------------------------------------------

pub front-is : (s : Str) (r a b c d : ℕ) → a ≡ get_or s 0 0 → b ≡ get_or s 1 0 → c ≡ get_or s 2 0 → d ≡ get_or s 3 0 → r ≡ 16777216 * a + 65536 * b + 256 * c + d → a < 256 → b < 256 → c < 256 → d < 256
    → Fronted s r
unfolding front_at
front-is s x a b c d p q r t z e f g h = record { number = z ∙ rw (p, q, r, t); first = rw (← p) e; second = rw (← q) f; third = rw (← r) g; fourth = rw (← t) h }

past : (s : Str) (i : ℕ) → length s ≤ i → get_or s i 0 ≡ 0
past s i h = get_or-eq_default s 0 {n = i} h

-- a text of which something is left has the byte there
has : (s : Str) (i : ℕ) → (length s ≤ i → ⊥) → i < length s
has s i h = go (ltb i (length s)) refl
  where
    go : (t : Bool) → ltb i (length s) ≡ t → i < length s
    go true e = ltb-true i (length s) e
    go false e = absurd (h (ltb-false i (length s) e))

module _ (a b : Str) where
  lead-below : (i : ℕ) → i < length b → (get_or b i 0 ≤ get_or a i 0 → (get_or a i 0 ≤ get_or b i 0) × (before (drop (i + 1) a) (drop (i + 1) b) ≡ true))
      → before (drop i a) (drop i b) ≡ true
  lead-below i m h = go (ltb i (length a)) (ltb (get_or a i 0) (get_or b i 0)) refl refl
    where
      go : (u t : Bool) → ltb i (length a) ≡ u → ltb (get_or a i 0) (get_or b i 0) ≡ t → before (drop i a) (drop i b) ≡ true
      go false t f e = before-shorter a b i (ltb-false i (length a) f) m
      go true true f e = before-below a b i (ltb-true i (length a) f) m (ltb-true (get_or a i 0) (get_or b i 0) e)
      go true false f e = let n = ltb-false (get_or a i 0) (get_or b i 0) e in before-next a b i (ltb-true i (length a) f) m n (h n).0 ∙ (h n).1

  module _ (x y : ℕ) (f : Fronted a x) (g : Fronted b y) where
    pub front_below : x < y → true ≡ before a b
    unfolding front_at
    front_below h =
        let u = f.number in
        let v = g.number in
        let a1 = f.second in
        let a2 = f.third in
        let a3 = f.fourth in
        let b1 = g.second in
        let b2 = g.third in
        let b3 = g.fourth in
        sym
        (lead-below 0 (has b 0 (λ q. let p0 = past b 0 q in let p1 = past b 1 (omega arith) in let p2 = past b 2 (omega arith) in let p3 = past b 3 (omega arith) in omega arith))
        (λ h0. (
          omega arith,
          lead-below 1 (has b 1 (λ q. let p1 = past b 1 q in let p2 = past b 2 (omega arith) in let p3 = past b 3 (omega arith) in omega arith))
              (λ h1. (
                omega arith,
                lead-below 2 (has b 2 (λ q. let p2 = past b 2 q in let p3 = past b 3 (omega arith) in omega arith))
                    (λ h2. (omega arith, lead-below 3 (has b 3 (λ q. let p3 = past b 3 q in omega arith)) (λ h3. absurd (omega arith)))),
              )),
        )))

-- of two texts at most one goes before the other
before-asym : (a b : Str) → before b a ≡ true → before a b ≡ false
unfolding before
before-asym [] [] e = refl
before-asym [] (y ∷ b) e = absurd (false≢true e)
before-asym (x ∷ a) [] e = refl
before-asym (x ∷ a) (y ∷ b) e = go (ltb y x) (eqb y x) refl refl e (before-asym a b)
  where
    go : (u t : Bool) → ltb y x ≡ u → eqb y x ≡ t → u || (t && before b a) ≡ true → (before b a ≡ true → before a b ≡ false) → ltb x y || (eqb x y && before a b) ≡ false
    go true t f g h i = let q = ltb-true y x f in rw (le-ltb x y (omega arith), ne_eqb x y (λ z. omega arith))
    go false true f g h i = let q = eqb-true y x g in rw (le-ltb x y (omega arith), eq-eqb x y (sym q), i h)
    go false false f g h i = absurd (false≢true h)

pub front_above : (a b : Str) (x y : ℕ) → Fronted a x → Fronted b y → y < x → false ≡ before a b
front_above a b x y f g h = sym (before-asym a b (sym (front_below b a y x g f h)))

-- texts that differ in their first four bytes go in the order of these
pub front_order : (a b : Str) (x y : ℕ) → Fronted a x → Fronted b y → (x ≡ y → ⊥) → ltb x y ≡ before a b
front_order a b x y f g d = go (ltb x y) refl
  where
    go : (t : Bool) → ltb x y ≡ t → t ≡ before a b
    go true e = front_below a b x y f g (ltb-true x y e)
    go false e = let l = ltb-false x y e in front_above a b x y f g (let z : (x ≡ y → ⊥) = d in omega arith)

-- the library's order of bytes is theirs
pub before_cmp : (a b : Str) (o : Ordering) → o ≡ slice_cmp nat_cmp a b → is_lt o ≡ before a b
unfolding before
before_cmp = same_from_slice_cmp nat_cmp is_lt before refl (λ _ _. refl) (λ _ _. refl) (λ x y xs ys o h. grind (arith, nat_tests))
