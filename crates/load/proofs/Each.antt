-- Lists of verdicts, look-ups in joined lists, and a map by name of which one element is exchanged. Assumes nothing.
use Rattle.std.specs.Prelude.{Option, Some, None}
use mathlib.Core.Path.{◌≡◌, refl, sym, ◌∙◌, ap, subst}
use mathlib.Core.List.Memᴰ
use mathlib.Core.List.{List, [], ◌∷◌, ◌++◌, map, Memᴰ}
use mathlib.Core.Bool.{Bool, true, false, cond}
use mathlib.Core.Logic.{◌⊎◌, inl, inr}
use Rattle.record.specs.Base.{Str, eqs, before, find, last_or, find_last, filter_b}
use Rattle.layout.specs.Sorted.{sorted}
use Rattle.definition.specs.Verdicts.{Verdict, pass, stop}
use Rattle.definition.specs.Pass.{◌then◌, each}
use Rattle.definition.specs.Chain.{NoDup}
use Rattle.record.proofs.Basics.{eqs→eq, eqs-refl, find-only, none≢some}
use Rattle.layout.proofs.Order.{Sorted, sorted-sorted, before-irrefl}
use Rattle.definition.proofs.Passes.{each-pass}
use Rattle.definition.proofs.Same.{key-only}

module _ {A : Type 0} where
  -- every element passes, or gives one verdict
  each-either : (f : A → Verdict) (l : List A) (v : Verdict) → ((x : A) → Memᴰ x l → (f x ≡ pass) ⊎ (f x ≡ v)) → (each f l ≡ pass) ⊎ (each f l ≡ v)
  unfolding each ◌then◌
  each-either f [] v h = inl refl
  each-either f (y ∷ ys) v h = go v (h y (Memᴰ.head refl)) (each-either f ys v (λ x m. h x (Memᴰ.tail m)))
    where
      go : (w : Verdict) → (f y ≡ pass) ⊎ (f y ≡ w) → (each f ys ≡ pass) ⊎ (each f ys ≡ w) → ((f y then each f ys) ≡ pass) ⊎ ((f y then each f ys) ≡ w)
      go w (inl e) r = rw e r
      go pass (inr e) r = rw e r
      go (stop n m) (inr e) r = inr (rw e)

  -- if one gives it, the list does
  pub each-one : (f : A → Verdict) (l : List A) (v : Verdict) → ((x : A) → Memᴰ x l → (f x ≡ pass) ⊎ (f x ≡ v)) → {x : A} → Memᴰ x l → f x ≡ v → each f l ≡ v
  each-one f l v h {x} m e = go (each-either f l v h)
    where
      go : (each f l ≡ pass) ⊎ (each f l ≡ v) → each f l ≡ v
      go (inl p) = p ∙ sym (each-pass f l p m) ∙ e
      go (inr p) = p

  pub each_all : (f : A → Verdict) (l : List A) → ((x : A) → Memᴰ x l → f x ≡ pass) → each f l ≡ pass
  unfolding each ◌then◌
  each_all f [] h = refl
  each_all f (y ∷ ys) h = rw (h y (Memᴰ.head refl)) (each_all f ys (λ x m. h x (Memᴰ.tail m)))

  -- a front that passes
  pub each-front : (f : A → Verdict) (l k : List A) → ((x : A) → Memᴰ x l → f x ≡ pass) → each f (l ++ k) ≡ each f k
  unfolding each ◌then◌
  each-front f [] k h = refl
  each-front f (y ∷ ys) k h = rw (h y (Memᴰ.head refl)) (each-front f ys k (λ x m. h x (Memᴰ.tail m)))

  pub find-left : (p : A → Bool) (l k : List A) {x : A} → find p l ≡ Some x → find p (l ++ k) ≡ Some x
  unfolding find
  find-left p [] k h = absurd (none≢some h)
  find-left p (y ∷ ys) k {x} h = go (p y) h (λ e. find-left p ys k e)
    where
      go : (b : Bool) → cond b (Some y) (find p ys) ≡ Some x → (find p ys ≡ Some x → find p (ys ++ k) ≡ Some x) → cond b (Some y) (find p (ys ++ k)) ≡ Some x
      go true e r = e
      go false e r = r e

  pub find-right : (p : A → Bool) (l k : List A) → ((x : A) → Memᴰ x l → p x ≡ false) → find p (l ++ k) ≡ find p k
  unfolding find
  find-right p [] k h = refl
  find-right p (y ∷ ys) k h = rw (h y (Memᴰ.head refl)) (find-right p ys k (λ x m. h x (Memᴰ.tail m)))

  pub find-nowhere : (p : A → Bool) (l : List A) → ((x : A) → Memᴰ x l → p x ≡ false) → find p l ≡ None
  unfolding find
  find-nowhere p [] h = refl
  find-nowhere p (y ∷ ys) h = rw (h y (Memᴰ.head refl)) (find-nowhere p ys (λ x m. h x (Memᴰ.tail m)))

  pub filter-of : (p : A → Bool) (l : List A) {x : A} → Memᴰ x (filter_b p l) → Memᴰ x l × (p x ≡ true)
  unfolding filter_b
  filter-of p [] m = absurd (Memᴰ.not-nil m)
  filter-of p (y ∷ ys) {x} m = go (p y) refl (λ n. filter-of p ys n) m
    where
      go : (b : Bool) → p y ≡ b → (Memᴰ x (filter_b p ys) → Memᴰ x ys × (p x ≡ true)) → Memᴰ x (cond b (y ∷ filter_b p ys) (filter_b p ys)) → Memᴰ x (y ∷ ys) × (p x ≡ true)
      go true e r (Memᴰ.head q) = (Memᴰ.head q, ap p q ∙ e)
      go true e r (Memᴰ.tail n) = (Memᴰ.tail (r n).0, (r n).1)
      go false e r n = (Memᴰ.tail (r n).0, (r n).1)

  last-append : (o : Option A) (p : A → Bool) (l k : List A) → last_or o p (l ++ k) ≡ last_or (last_or o p l) p k
  unfolding last_or
  last-append o p [] k = refl
  last-append o p (y ∷ ys) k = last-append (cond (p y) (Some y) o) p ys k

  last-nowhere : (o : Option A) (p : A → Bool) (l : List A) → ((x : A) → Memᴰ x l → p x ≡ false) → last_or o p l ≡ o
  unfolding last_or
  last-nowhere o p [] h = refl
  last-nowhere o p (y ∷ ys) h = rw (h y (Memᴰ.head refl)) (last-nowhere o p ys (λ x m. h x (Memᴰ.tail m)))

  -- by a key that no two have, each is found
  pub find-keyed : (key : A → Str) (l : List A) → NoDup (map key l) → {x : A} → Memᴰ x l → find (λ (y : A). eqs (key y) (key x)) l ≡ Some x
  find-keyed key l d {x} m = find-only (λ (y : A). eqs (key y) (key x)) l m (eqs-refl (key x)) (λ y n e. key-only key l d n m (eqs→eq (key y) (key x) e))

-- a list in which one element is exchanged for another of its name, and no other has that name
module _ {A : Type 0} (name : A → Str) (l k : List A) (n : Str)
    (left : (x : A) → Memᴰ x l → eqs (name x) n ≡ false) (right : (x : A) → Memᴰ x k → eqs (name x) n ≡ false) where
  pub last-this : (x : A) → name x ≡ n → find_last (λ (y : A). eqs (name y) n) (l ++ (x ∷ k)) ≡ Some x
  unfolding find_last last_or
  last-this x e =
      last-append None (λ (y : A). eqs (name y) n) l (x ∷ k)
      ∙ rw (last-nowhere None (λ (y : A). eqs (name y) n) l left, e, eqs-refl n) (last-nowhere (Some x) (λ (y : A). eqs (name y) n) k right)

  pub last-other : (x y : A) → name x ≡ n → name y ≡ n → (m : Str) → eqs n m ≡ false
      → find_last (λ (z : A). eqs (name z) m) (l ++ (x ∷ k)) ≡ find_last (λ (z : A). eqs (name z) m) (l ++ (y ∷ k))
  unfolding find_last last_or
  last-other x y e f m d =
      last-append None (λ (z : A). eqs (name z) m) l (x ∷ k)
      ∙ rw (e, d) (sym (last-append None (λ (z : A). eqs (name z) m) l (y ∷ k) ∙ rw (f, d)))

-- in byte order of names
module _ {A : Type 0} (name : A → Str) where
  sorted-only : (l : List A) → Sorted name l → {x y : A} → Memᴰ x l → Memᴰ y l → name x ≡ name y → x ≡ y
  sorted-only [] s m n e = absurd (Memᴰ.not-nil m)
  sorted-only (z ∷ zs) s (Memᴰ.head p) (Memᴰ.head q) e = p ∙ sym q
  sorted-only (z ∷ zs) s {x} {y} (Memᴰ.head p) (Memᴰ.tail n) e =
      absurd (before-irrefl (name y) (subst (λ (w : Str). before w (name y) ≡ true) (sym (ap name p) ∙ e) (s.0 y n)))
  sorted-only (z ∷ zs) s {x} {y} (Memᴰ.tail m) (Memᴰ.head q) e =
      absurd (before-irrefl (name x) (subst (λ (w : Str). before w (name x) ≡ true) (sym (ap name q) ∙ sym e) (s.0 x m)))
  sorted-only (z ∷ zs) s (Memᴰ.tail m) (Memᴰ.tail n) e = sorted-only zs s.1 m n e

  -- each is found by its name
  pub sorted-self : (l : List A) {x : A} → Memᴰ x (sorted name l) → find (λ (y : A). eqs (name y) (name x)) (sorted name l) ≡ Some x
  sorted-self l {x} m =
      find-only (λ (y : A). eqs (name y) (name x)) (sorted name l) m (eqs-refl (name x))
      (λ y i e. sorted-only (sorted name l) (sorted-sorted name l) i m (eqs→eq (name y) (name x) e))
