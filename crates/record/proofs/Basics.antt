-- Laws of the tests, look-ups and verdicts. Assumes nothing.
use Rattle.std.specs.Prelude.{Option, Some, None}
use mathlib.Core.Path.{◌≡◌, refl, sym, ◌∙◌, ap}
use mathlib.Core.List.Memᴰ
use mathlib.Core.List.{List, [], ◌∷◌, Memᴰ}
use mathlib.Core.Bool.{Bool, true, false, ◌||◌, cond, false≢true}
use Prim.Native.Nat.{ℕ}
use native.Mathlib.Omega.{arith}
use Rattle.std.proofs.lemmas.Option.{same_Some}
use Rattle.record.specs.Base.{find, any, filter_b}
pub use Rattle.texts.proofs.TextLaws.{both, eqs→eq, eqs-refl}

pub none≢some : {A : Type 0} {a : A} → None ≡ Some a → ⊥
none≢some e = let z : ◌≡◌ {A = ℕ} 0 1 = cc in omega arith

-- pairs that are found and are the same have the same parts
pub same-parts : {A B : Type 0} {a c : A} {b d : B} → ◌≡◌ {A = Option (A × B)} (Some (a, b)) (Some (c, d)) → (a ≡ c) × (b ≡ d)
same-parts {A} {B} e = let q = same_Some _ _ e in (ap (λ (x : A × B). x.0) q, ap (λ (x : A × B). x.1) q)

module _ {A : Type 0} where
  pub find-some : (p : A → Bool) (l : List A) {x : A} → find p l ≡ Some x → Memᴰ x l × (p x ≡ true)
  unfolding find
  find-some p [] h = absurd (let z : ◌≡◌ {A = ℕ} 0 1 = cc in omega arith)
  find-some p (y ∷ ys) {x} h = go (p y) refl (λ k. find-some p ys k) h
    where
      go : (b : Bool) → p y ≡ b → (find p ys ≡ Some x → Memᴰ x ys × (p x ≡ true))
          → cond b (Some y) (find p ys) ≡ Some x → Memᴰ x (y ∷ ys) × (p x ≡ true)
      go true e r k = let q : x ≡ y = cc in (Memᴰ.head q, ap p q ∙ e)
      go false e r k = (Memᴰ.tail (r k).0, (r k).1)

  -- where some element passes the test, one is found
  pub find-any : (p : A → Bool) (l : List A) {x : A} → Memᴰ x l → p x ≡ true → (y : A) × (find p l ≡ Some y)
  unfolding find
  find-any p [] m h = absurd (Memᴰ.not-nil m)
  find-any p (y ∷ ys) (Memᴰ.head e) h = (y, rw (← e, h))
  find-any p (y ∷ ys) (Memᴰ.tail m) h = go (p y) (find-any p ys m h)
    where
      go : (b : Bool) → (z : A) × (find p ys ≡ Some z) → (z : A) × (cond b (Some y) (find p ys) ≡ Some z)
      go true r = (y, refl)
      go false r = r

  -- and if all that pass are equal, it is that one
  pub find-only : (p : A → Bool) (l : List A) {x : A} → Memᴰ x l → p x ≡ true
      → ((y : A) → Memᴰ y l → p y ≡ true → y ≡ x) → find p l ≡ Some x
  find-only p l {x} m h only =
      let f = find-any p l m h in
      let g = find-some p l f.1 in
      f.1 ∙ ap Some (only f.0 g.0 g.1)

  pub any_some : (p : A → Bool) (l : List A) → any p l ≡ true → (x : A) × Memᴰ x l × (p x ≡ true)
  unfolding any
  any_some p [] h = absurd (false≢true h)
  any_some p (y ∷ ys) h = go (p y) refl (λ k. any_some p ys k) h
    where
      go : (b : Bool) → p y ≡ b → (any p ys ≡ true → (x : A) × Memᴰ x ys × (p x ≡ true))
          → (b || any p ys) ≡ true → (x : A) × Memᴰ x (y ∷ ys) × (p x ≡ true)
      go true e r k = (y, Memᴰ.head refl, e)
      go false e r k = let w = r k in (w.0, Memᴰ.tail w.1, w.2)

  pub any_none : (p : A → Bool) (l : List A) → any p l ≡ false → {x : A} → Memᴰ x l → p x ≡ true → ⊥
  unfolding any
  any_none p [] h m t = Memᴰ.not-nil m
  any_none p (y ∷ ys) h (Memᴰ.head e) t = false≢true (sym h ∙ ap (λ (b : Bool). b || any p ys) (sym (ap p e) ∙ t))
  any_none p (y ∷ ys) h (Memᴰ.tail m) t = go (p y) (λ k. any_none p ys k m t) h
    where
      go : (b : Bool) → (any p ys ≡ false → ⊥) → (b || any p ys) ≡ false → ⊥
      go true r k = false≢true (sym k)
      go false r k = r k

  pub filter-mem : (p : A → Bool) (l : List A) {x : A} → Memᴰ x l → p x ≡ true → Memᴰ x (filter_b p l)
  unfolding filter_b
  filter-mem p [] m h = absurd (Memᴰ.not-nil m)
  filter-mem p (y ∷ ys) {x} (Memᴰ.head e) h = rw (sym (ap p e) ∙ h) (Memᴰ.head e)
  filter-mem p (y ∷ ys) {x} (Memᴰ.tail m) h = go (p y) (filter-mem p ys m h)
    where
      go : (b : Bool) → Memᴰ x (filter_b p ys) → Memᴰ x (cond b (y ∷ filter_b p ys) (filter_b p ys))
      go true r = Memᴰ.tail r
      go false r = r
