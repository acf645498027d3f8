-- Maps by name: byte order is an order, the list is sorted, a look-up is the last of the name, the next name is found by a scan. Assumes nothing.
use Rattle.std.specs.Prelude.{Option, Some, None}
use mathlib.Core.Path.{◌≡◌, refl, sym, ◌∙◌, ap, subst}
use mathlib.Core.List.Memᴰ
use mathlib.Core.List.{List, [], ◌∷◌, Memᴰ}
use mathlib.Core.Bool.{Bool, true, false, ◌&&◌, ◌||◌, cond, false≢true}
use mathlib.Core.Logic.{◌⊎◌, inl, inr}
use Prim.Native.Nat.{ℕ, ◌<◌, ◌≤◌}
use native.Mathlib.Omega.{arith}
use lib.Dec.{eqb, ltb}
use borrow.Author.Tests.{eqb-true, eqb-false, eq-eqb, ltb-true, ltb-false, lt-ltb, le-ltb}
use Rattle.record.specs.Base.{Str, eqs, before, find, last_or, find_last}
use Rattle.record.specs.Schema.{Schema}
use Rattle.layout.specs.Sorted.{insert, insert_all, sorted}
use Rattle.layout.specs.Layout.{TypeLayout, flattened, types, type_in}
use Rattle.record.proofs.Basics.{eqs→eq, find-some}
use Rattle.layout.proofs.Origin.{insert-mem}

-- byte order, as what a test says of the heads
data Order (a b : ℕ) : Type 0 where
  less : ltb a b ≡ true → eqb a b ≡ false → Order a b
  same : ltb a b ≡ false → eqb a b ≡ true → Order a b
  more : ltb a b ≡ false → eqb a b ≡ false → Order a b

order : (a b : ℕ) → Order a b
order a b = go (ltb a b) (eqb a b) refl refl
  where
    go : (x y : Bool) → ltb a b ≡ x → eqb a b ≡ y → Order a b
    go true true e f = absurd (let p = ltb-true a b e in let q = eqb-true a b f in omega arith)
    go true false e f = less e f
    go false true e f = same e f
    go false false e f = more e f

-- the clause of `before` at two heads
heads : (a b : ℕ) (s t : Str) → before (a ∷ s) (b ∷ t) ≡ true → (a < b) ⊎ ((a ≡ b) × (before s t ≡ true))
unfolding before
heads a b s t h = go (order a b) h
  where
    go : Order a b → (ltb a b || (eqb a b && before s t)) ≡ true → (a < b) ⊎ ((a ≡ b) × (before s t ≡ true))
    go (less e f) k = inl (ltb-true a b e)
    go (same e f) k = inr (eqb-true a b f, rw (e, f) at k)
    go (more e f) k = absurd (false≢true (rw (e, f) at k))

before-less : (a b : ℕ) (s t : Str) → a < b → before (a ∷ s) (b ∷ t) ≡ true
unfolding before
before-less a b s t h = rw (lt-ltb a b h)

before_same : (a b : ℕ) (s t : Str) → a ≡ b → before s t ≡ true → before (a ∷ s) (b ∷ t) ≡ true
unfolding before
before_same a b s t e h = rw (le-ltb a b (omega arith), eq-eqb a b e) h

pub before-trans : (s t u : Str) → before s t ≡ true → before t u ≡ true → before s u ≡ true
unfolding before
before-trans [] [] u h k = k
before-trans [] (b ∷ t) [] h k = absurd (false≢true k)
before-trans [] (b ∷ t) (c ∷ u) h k = refl
before-trans (a ∷ s) [] u h k = absurd (false≢true h)
before-trans (a ∷ s) (b ∷ t) [] h k = absurd (false≢true k)
before-trans (a ∷ s) (b ∷ t) (c ∷ u) h k = go (heads a b s t h) (heads b c t u k) (λ p q. before-trans s t u p q)
  where
    go : (a < b) ⊎ ((a ≡ b) × (before s t ≡ true)) → (b < c) ⊎ ((b ≡ c) × (before t u ≡ true))
        → (before s t ≡ true → before t u ≡ true → before s u ≡ true) → before (a ∷ s) (c ∷ u) ≡ true
    go (inl p) (inl q) r = before-less a c s u (omega arith)
    go (inl p) (inr q) r = before-less a c s u (let e = q.0 in omega arith)
    go (inr p) (inl q) r = before-less a c s u (let e = p.0 in omega arith)
    go (inr p) (inr q) r = before_same a c s u (p.0 ∙ q.0) (r p.1 q.1)

pub before-irrefl : (s : Str) → before s s ≡ true → ⊥
unfolding before
before-irrefl [] h = false≢true h
before-irrefl (a ∷ s) h = go (heads a a s s h) (before-irrefl s)
  where
    go : (a < a) ⊎ ((a ≡ a) × (before s s ≡ true)) → (before s s ≡ true → ⊥) → ⊥
    go (inl p) r = omega arith
    go (inr p) r = r p.1

pub before-total : (s t : Str) → eqs s t ≡ false → before s t ≡ false → before t s ≡ true
unfolding before eqs
before-total [] [] e h = absurd (false≢true (sym e))
before-total [] (b ∷ t) e h = absurd (false≢true (sym h))
before-total (a ∷ s) [] e h = refl
before-total (a ∷ s) (b ∷ t) e h = go (order a b) e h (λ x y. before-total s t x y)
  where
    go : Order a b → (eqb a b && eqs s t) ≡ false → (ltb a b || (eqb a b && before s t)) ≡ false
        → (eqs s t ≡ false → before s t ≡ false → before t s ≡ true) → before (b ∷ t) (a ∷ s) ≡ true
    go (less p q) x y r = absurd (false≢true (sym y ∙ ap (λ (z : Bool). z || (eqb a b && before s t)) p))
    go (same p q) x y r = before_same b a t s (sym (eqb-true a b q)) (r (rw q at x) (rw (p, q) at y))
    go (more p q) x y r =
        let n = eqb-false a b q in
        let m = ltb-false a b p in
        before-less b a t s (below a b m n)
      where
        below : (i j : ℕ) → j ≤ i → (i ≡ j → ⊥) → j < i
        below i j p q = omega arith

-- what is before x, where a is not, is before a
pub before-co : (b a x : Str) → before b x ≡ true → before a x ≡ false → before b a ≡ true
before-co b a x p q = go (before b a) (eqs b a) refl refl
  where
    go : (t u : Bool) → before b a ≡ t → eqs b a ≡ u → t ≡ true
    go true u e f = refl
    go false true e f = absurd (false≢true (sym q ∙ ap (λ (y : Str). before y x) (sym (eqs→eq b a f)) ∙ p))
    go false false e f = absurd (false≢true (sym q ∙ before-trans a b x (before-total b a f e) p))

-- sorted strictly by name
abbrev pub Sorted : {A : Type 0} → (A → Str) → List A → Type 0
Sorted name [] = Unit {0}
Sorted {A} name (x ∷ l) = ((y : A) → Memᴰ y l → before (name x) (name y) ≡ true) × Sorted name l

-- the first in order that passes a test of names, after one more is put in
pub better : {A : Type 0} → (A → Str) → (Str → Bool) → Option A → A → Option A
better name p None x = cond (p (name x)) (Some x) None
better name p (Some y) x = cond (p (name x)) (cond (before (name y) (name x)) (Some y) (Some x)) (Some y)

pub scan : {A : Type 0} → (A → Str) → (Str → Bool) → Option A → List A → Option A
scan name p o [] = o
scan name p o (x ∷ xs) = scan name p (better name p o x) xs

pub not_after : (s t : Str) → before s t ≡ true → before t s ≡ false
not_after s t h = go (before t s) refl
  where
    go : (b : Bool) → before t s ≡ b → b ≡ false
    go true e = absurd (before-irrefl s (before-trans s t s h e))
    go false e = refl

pub not-self : (s t : Str) → s ≡ t → before s t ≡ false
not-self s t q = go (before s t) refl
  where
    go : (b : Bool) → before s t ≡ b → b ≡ false
    go true e = absurd (before-irrefl s (subst (λ (x : Str). before s x ≡ true) (sym q) e))
    go false e = refl

module _ {A : Type 0} (name : A → Str) where
  insert-sorted : (x : A) (l : List A) → Sorted name l → Sorted name (insert name x l)
  unfolding insert
  insert-sorted x [] s = (λ u m. absurd (Memᴰ.not-nil m), tt)
  insert-sorted x (y ∷ ys) s = go (eqs (name x) (name y)) (before (name x) (name y)) refl refl (insert-sorted x ys s.1)
    where
      over : before (name x) (name y) ≡ true → (u : A) → Memᴰ u (y ∷ ys) → before (name x) (name u) ≡ true
      over h u (Memᴰ.head e) = subst (λ (z : A). before (name x) (name z) ≡ true) (sym e) h
      over h u (Memᴰ.tail m) = before-trans (name x) (name y) (name u) h (s.0 u m)

      under : before (name y) (name x) ≡ true → (u : A) → (u ≡ x) ⊎ Memᴰ u ys → before (name y) (name u) ≡ true
      under h u (inl e) = subst (λ (z : A). before (name y) (name z) ≡ true) (sym e) h
      under h u (inr m) = s.0 u m

      go : (b c : Bool) → eqs (name x) (name y) ≡ b → before (name x) (name y) ≡ c → Sorted name (insert name x ys)
          → Sorted name (cond b (x ∷ ys) (cond c (x ∷ y ∷ ys) (y ∷ insert name x ys)))
      go true c e f r = (λ u m. subst (λ (n : Str). before n (name u) ≡ true) (sym (eqs→eq _ _ e)) (s.0 u m), s.1)
      go false true e f r = (over f, s)
      go false false e f r = (λ u m. under (before-total (name x) (name y) e f) u (insert-mem name x ys m), r)

  insert_all-sorted : (xs acc : List A) → Sorted name acc → Sorted name (insert_all name xs acc)
  unfolding insert_all
  insert_all-sorted [] acc s = s
  insert_all-sorted (x ∷ xs) acc s = insert_all-sorted xs (insert name x acc) (insert-sorted x acc s)

  pub sorted-sorted : (xs : List A) → Sorted name (sorted name xs)
  unfolding sorted
  sorted-sorted xs = insert_all-sorted xs [] tt

  better-not : (p : Str → Bool) (o : Option A) (x : A) → p (name x) ≡ false → better name p o x ≡ o
  unfolding better
  better-not p None x e = rw e
  better-not p (Some y) x e = rw e

  better-first : (p : Str → Bool) (o : Option A) (x : A) → p (name x) ≡ true
      → ((u : A) → o ≡ Some u → before (name u) (name x) ≡ false) → better name p o x ≡ Some x
  unfolding better
  better-first p None x e f = rw e
  better-first p (Some u) x e f = rw (e, f u refl)

  find-insert : (p : Str → Bool) (t : A) (l : List A) → Sorted name l
      → find (λ (u : A). p (name u)) (insert name t l) ≡ better name p (find (λ (u : A). p (name u)) l) t
  unfolding insert find better
  find-insert p t [] s = refl
  find-insert p t (x ∷ xs) s =
      go (eqs (name t) (name x)) (before (name t) (name x)) refl refl (p (name t)) (p (name x)) refl refl (find-insert p t xs s.1)
    where
      q : A → Bool
      q u = p (name u)

      rest : Option A
      rest = find q xs

      same_name : (u : A) → Some x ≡ Some u → eqs (name t) (name x) ≡ true → name u ≡ name t
      same_name u k e = let y : x ≡ u = cc in ap name (sym y) ∙ sym (eqs→eq _ _ e)

      later : (u : A) → before (name t) (name x) ≡ true → Memᴰ u (x ∷ xs) → before (name t) (name u) ≡ true
      later u f (Memᴰ.head y) = subst (λ (v : A). before (name t) (name v) ≡ true) (sym y) f
      later u f (Memᴰ.tail m) = before-trans (name t) (name x) (name u) f (s.0 u m)

      keeps : p (name t) ≡ true → before (name x) (name t) ≡ true → better name p (Some x) t ≡ Some x
      keeps g b = rw (g, b)

      go : (b c : Bool) → eqs (name t) (name x) ≡ b → before (name t) (name x) ≡ c → (i j : Bool) → p (name t) ≡ i → p (name x) ≡ j
          → find q (insert name t xs) ≡ better name p rest t
          → find q (cond b (t ∷ xs) (cond c (t ∷ x ∷ xs) (x ∷ insert name t xs))) ≡ better name p (cond (p (name x)) (Some x) rest) t
      go true c e f true true g h r =
          rw (g, h) (sym (better-first p (Some x) t g (λ u k. not-self (name u) (name t) (same_name u k e))))
      go true c e f true false g h r = absurd (false≢true (sym h ∙ ap p (sym (eqs→eq _ _ e)) ∙ g))
      go true c e f false true g h r = absurd (false≢true (sym g ∙ ap p (eqs→eq _ _ e) ∙ h))
      go true c e f false false g h r = rw (g, h) (sym (better-not p rest t g))
      go false true e f true j g h r =
          sym (better-first p (cond (p (name x)) (Some x) rest) t g (λ u k. not_after (name t) (name u) (later u f (find-some q (x ∷ xs) k).0))
          ∙ sym (ap (λ (b : Bool). cond b (Some t) (cond (p (name x)) (Some x) rest)) g))
      go false true e f false j g h r =
          ap (λ (b : Bool). cond b (Some t) (cond (p (name x)) (Some x) rest)) g ∙ sym (better-not p (cond (p (name x)) (Some x) rest) t g)
      go false false e f true true g h r = rw h (sym (keeps g (before-total (name t) (name x) e f)))
      go false false e f false true g h r = rw h (sym (better-not p (Some x) t g))
      go false false e f i false g h r = rw h r

  find-insert_all : (p : Str → Bool) (xs acc : List A) → Sorted name acc
      → find (λ (u : A). p (name u)) (insert_all name xs acc) ≡ scan name p (find (λ (u : A). p (name u)) acc) xs
  unfolding insert_all scan
  find-insert_all p [] acc s = refl
  find-insert_all p (x ∷ xs) acc s =
      find-insert_all p xs (insert name x acc) (insert-sorted x acc s) ∙ ap (λ (o : Option A). scan name p o xs) (find-insert p x acc s)

  -- the first in byte order that passes a test of names is found by one scan of what was put in
  pub next-by-scan : (p : Str → Bool) (xs : List A) → find (λ (u : A). p (name u)) (sorted name xs) ≡ scan name p None xs
  unfolding sorted find
  next-by-scan p xs = find-insert_all p xs [] tt

  scan-last : (n : Str) (o : Option A) (xs : List A) → ((u : A) → o ≡ Some u → name u ≡ n)
      → scan name (λ (m : Str). eqs m n) o xs ≡ last_or o (λ (u : A). eqs (name u) n) xs
  unfolding scan last_or
  scan-last n o [] h = refl
  scan-last n o (t ∷ ts) h = go (λ x k. scan-last n x ts k) (eqs (name t) n) refl
    where
      one : (u : A) → Some t ≡ Some u → name t ≡ n → name u ≡ n
      one u k e = let q : t ≡ u = cc in ap name (sym q) ∙ e

      go : ((x : Option A) → ((u : A) → x ≡ Some u → name u ≡ n)
          → scan name (λ (m : Str). eqs m n) x ts ≡ last_or x (λ (u : A). eqs (name u) n) ts) → (b : Bool) → eqs (name t) n ≡ b
          → scan name (λ (m : Str). eqs m n) (better name (λ (m : Str). eqs m n) o t) ts ≡ last_or (cond (eqs (name t) n) (Some t) o) (λ (u : A). eqs (name u) n) ts
      go rec true e =
          let q = eqs→eq (name t) n e in
          ap (λ (x : Option A). scan name (λ (m : Str). eqs m n) x ts)
          (better-first (λ (m : Str). eqs m n) o t e (λ u k. not-self (name u) (name t) (h u k ∙ sym q)))
          ∙ rec (Some t) (λ u k. one u k q)
          ∙ ap (λ (b : Bool). last_or (cond b (Some t) o) (λ (u : A). eqs (name u) n) ts) (sym e)
      go rec false e =
          ap (λ (x : Option A). scan name (λ (m : Str). eqs m n) x ts) (better-not (λ (m : Str). eqs m n) o t e)
          ∙ rec o h
          ∙ ap (λ (b : Bool). last_or (cond b (Some t) o) (λ (u : A). eqs (name u) n) ts) (sym e)

  -- a look-up by name finds the last of what was put in
  pub sorted-last : (n : Str) (xs : List A) → find (λ (u : A). eqs (name u) n) (sorted name xs) ≡ find_last (λ (u : A). eqs (name u) n) xs
  unfolding find_last
  sorted-last n xs = next-by-scan (λ (m : Str). eqs m n) xs ∙ scan-last n None xs (λ u k. absurd (let z : ◌≡◌ {A = ℕ} 0 1 = cc in omega arith))

-- the layouts of a record stand in byte order, and the one of a name is the last in flattening order
pub types-sorted : (s : Schema) → Sorted (λ (t : TypeLayout). t.name) (types s)
unfolding types
types-sorted s = sorted-sorted (λ (t : TypeLayout). t.name) (flattened s)

pub type-last : (n : Str) (s : Schema) → type_in n (types s) ≡ find_last (λ (t : TypeLayout). eqs t.name n) (flattened s)
unfolding type_in types
type-last n s = sorted-last (λ (t : TypeLayout). t.name) n (flattened s)
