-- What is found in a list, and in the list in another order, where no name stands twice: look-ups, tests and maps by name agree. Assumes nothing.
use Rattle.std.specs.Prelude.{Option, Some, None}
use mathlib.Core.Path.{◌≡◌, refl, sym, ◌∙◌, ap, ap₂, subst}
use mathlib.Core.List.Memᴰ
use mathlib.Core.List.Permᴰ
use mathlib.Core.List.{List, [], ◌∷◌, map, Memᴰ, Permᴰ}
use mathlib.Core.Bool.{Bool, true, false, cond}
use mathlib.Core.Logic.{◌⊎◌, inl, inr}
use Rattle.record.specs.Base.{Str, eqs, before, find, last_or, find_last, map_option, any}
use Rattle.record.proofs.Basics.{none≢some, eqs→eq, eqs-refl, find-some, find-any, find-only, any_some, any_none}
use Rattle.layout.specs.Sorted.{sorted}
use Rattle.layout.proofs.Order.{Sorted, before-trans, before-irrefl, sorted-sorted, sorted-last}
use Rattle.layout.proofs.Origin.{sorted-mem}
use Rattle.definition.specs.Pass.{empty}
use Rattle.definition.specs.Chain.{NoDup}
use Rattle.definition.specs.Sections.{Shuffled}
use Rattle.definition.proofs.Same.{key-only}
use Rattle.definition.proofs.Lists.{perm-mem, related-refl, shuffled-there, shuffled-back}

module _ {A : Type 0} where
  -- a permutation, as a list that is another in some order
  pub exactly : {a b : List A} → Permᴰ a b → Shuffled (λ (x y : A). x ≡ y) a b
  exactly {b = b} p = record { between = b; permuted = p; related = related-refl (λ x. refl) b }

  -- tests -----------------------------------------------------------------------------------------------------------------

  pub any-shuffled : {R : A → A → Type 0} (p : A → Bool) {a b : List A} → Shuffled R a b → ((x y : A) → R x y → p x ≡ p y) → any p a ≡ any p b
  any-shuffled p {a} {b} s f = go (any p a) (any p b) refl refl
    where
      go : (i j : Bool) → any p a ≡ i → any p b ≡ j → i ≡ j
      go true true e g = refl
      go false false e g = refl
      go true false e g =
          let w = any_some p a e in
          let v = shuffled-there s w.1 in
          absurd (any_none p b g v.1 (sym (f w.0 v.0 v.2) ∙ w.2))
      go false true e g =
          let w = any_some p b g in
          let v = shuffled-back s w.1 in
          absurd (any_none p a e v.1 (f v.0 w.0 v.2 ∙ w.2))

  pub any-perm : (p : A → Bool) {a b : List A} → Permᴰ a b → any p a ≡ any p b
  any-perm p d = any-shuffled p (exactly d) (λ x y e. ap p e)

  pub empty-shuffled : {R : A → A → Type 0} (a b : List A) → Shuffled R a b → empty a ≡ empty b
  unfolding empty
  empty-shuffled [] [] s = refl
  empty-shuffled [] (y ∷ ys) s = absurd (Memᴰ.not-nil (shuffled-back s (Memᴰ.head refl)).1)
  empty-shuffled (x ∷ xs) [] s = absurd (Memᴰ.not-nil (shuffled-there s (Memᴰ.head refl)).1)
  empty-shuffled (x ∷ xs) (y ∷ ys) s = refl

  -- look-ups --------------------------------------------------------------------------------------------------------------

  -- two options that hold nothing, or things that are related
  pub data OptionRel (R : A → A → Type 0) : Option A → Option A → Type 0 where
    neither : {o q : Option A} → o ≡ None → q ≡ None → OptionRel R o q
    both_hold : {o q : Option A} {x y : A} → o ≡ Some x → q ≡ Some y → R x y → OptionRel R o q

  pub option-cong : {B : Type 0} {R : A → A → Type 0} (g : Option A → B) {o q : Option A} → OptionRel R o q
      → ((x y : A) → R x y → g (Some x) ≡ g (Some y)) → g o ≡ g q
  option-cong g (neither e f) h = ap g (e ∙ sym f)
  option-cong g (both_hold {x = x} {y = y} e f r) h = ap g e ∙ h x y r ∙ sym (ap g f)

  pub option_map : {B : Type 0} {R : A → A → Type 0} (g : A → B) {o q : Option A} → OptionRel R o q → ((x y : A) → R x y → g x ≡ g y)
      → map_option g o ≡ map_option g q
  unfolding map_option
  option_map g w h = option-cong (map_option g) w (λ x y r. ap Some (h x y r))

  -- nothing is found exactly if nothing passes
  pub none_any : (p : A → Bool) (l : List A) → find p l ≡ None → any p l ≡ false
  none_any p l h = go (any p l) refl
    where
      go : (b : Bool) → any p l ≡ b → b ≡ false
      go true e = let w = any_some p l e in absurd (none≢some (sym h ∙ (find-any p l w.1 w.2).1))
      go false e = refl

  pub any-none-found : (p : A → Bool) (l : List A) → any p l ≡ false → find p l ≡ None
  any-none-found p l h = go (find p l) refl
    where
      go : (o : Option A) → find p l ≡ o → o ≡ None
      go None e = refl
      go (Some x) e = let w = find-some p l e in absurd (any_none p l h w.0 w.1)

  -- at most one element passes the test
  abbrev pub AtMostOne : (A → Bool) → List A → Type 0
  AtMostOne p l = (x y : A) → Memᴰ x l → Memᴰ y l → p x ≡ true → p y ≡ true → x ≡ y

  -- related, and the second an element of its list
  abbrev pub FoundAs : (A → A → Type 0) → List A → A → A → Type 0
  FoundAs R b x y = R x y × Memᴰ y b

  pub find-shuffled : {R : A → A → Type 0} (p : A → Bool) {a b : List A} → Shuffled R a b → ((x y : A) → R x y → p x ≡ p y) → AtMostOne p b
      → OptionRel (FoundAs R b) (find p a) (find p b)
  find-shuffled {R} p {a} {b} s f one = go (find p a) (find p b) refl refl
    where
      go : (o q : Option A) → find p a ≡ o → find p b ≡ q → OptionRel (FoundAs R b) (find p a) (find p b)
      go None None e g = neither e g
      go None (Some y) e g =
          let w = find-some p b g in
          let v = shuffled-back s w.0 in
          absurd (none≢some (sym e ∙ (find-any p a v.1 (f v.0 y v.2 ∙ w.1)).1))
      go (Some x) q e g =
          let w = find-some p a e in
          let v = shuffled-there s w.0 in
          let t : p v.0 ≡ true = sym (f x v.0 v.2) ∙ w.1 in
          both_hold e (find-only p b v.1 t (λ z m h. one z v.0 m v.1 h t)) (v.2, v.1)

  pub find-perm : (p : A → Bool) {a b : List A} → Permᴰ a b → AtMostOne p b → find p a ≡ find p b
  find-perm p d one = option-cong (λ (o : Option A). o) (find-shuffled p (exactly d) (λ x y e. ap p e) one) (λ x y r. ap Some r.0)

  -- the last that passes is the first, where at most one does
  last_some : (p : A → Bool) (o : Option A) (l : List A) {x : A} → last_or o p l ≡ Some x → (o ≡ Some x) ⊎ (Memᴰ x l × (p x ≡ true))
  unfolding last_or
  last_some p o [] h = inl h
  last_some p o (y ∷ ys) {x} h = go (p y) refl (last_some p (cond (p y) (Some y) o) ys h)
    where
      go : (b : Bool) → p y ≡ b → (cond b (Some y) o ≡ Some x) ⊎ (Memᴰ x ys × (p x ≡ true))
          → (o ≡ Some x) ⊎ (Memᴰ x (y ∷ ys) × (p x ≡ true))
      go true e (inl k) = let q : x ≡ y = cc in inr (Memᴰ.head q, ap p q ∙ e)
      go false e (inl k) = inl k
      go b e (inr w) = inr (Memᴰ.tail w.0, w.1)

  last-kept : (p : A → Bool) (y : A) (l : List A) → (z : A) × (last_or (Some y) p l ≡ Some z)
  unfolding last_or
  last-kept p y [] = (y, refl)
  last-kept p y (x ∷ xs) = go (p x) (last-kept p x xs) (last-kept p y xs)
    where
      go : (b : Bool) → (z : A) × (last_or (Some x) p xs ≡ Some z) → (z : A) × (last_or (Some y) p xs ≡ Some z)
          → (z : A) × (last_or (cond b (Some x) (Some y)) p xs ≡ Some z)
      go true r s = r
      go false r s = s

  last-any : (p : A → Bool) (o : Option A) (l : List A) {x : A} → Memᴰ x l → p x ≡ true → (z : A) × (last_or o p l ≡ Some z)
  unfolding last_or
  last-any p o [] m h = absurd (Memᴰ.not-nil m)
  last-any p o (y ∷ ys) (Memᴰ.head e) h = rw (sym (ap p e) ∙ h) (last-kept p y ys)
  last-any p o (y ∷ ys) (Memᴰ.tail m) h = last-any p (cond (p y) (Some y) o) ys m h

  last-first : (p : A → Bool) (l : List A) → AtMostOne p l → find_last p l ≡ find p l
  unfolding find_last
  last-first p l one = go (find p l) (last_or None p l) refl refl
    where
      from : {x : A} → (None ≡ Some x) ⊎ (Memᴰ x l × (p x ≡ true)) → Memᴰ x l × (p x ≡ true)
      from (inl e) = absurd (none≢some e)
      from (inr w) = w

      go : (o q : Option A) → find p l ≡ o → last_or None p l ≡ q → q ≡ o
      go None None e f = refl
      go None (Some y) e f =
          let w = from (last_some p None l f) in
          absurd (none≢some (sym e ∙ (find-any p l w.0 w.1).1))
      go (Some x) None e f =
          let w = find-some p l e in
          absurd (none≢some (sym f ∙ (last-any p None l w.0 w.1).1))
      go (Some x) (Some y) e f =
          let w = find-some p l e in
          let v = from (last_some p None l f) in
          ap Some (one y x v.0 w.0 v.1 w.1)

  pub last-shuffled : {R : A → A → Type 0} (p : A → Bool) {a b : List A} → Shuffled R a b → ((x y : A) → R x y → p x ≡ p y)
      → AtMostOne p a → AtMostOne p b → OptionRel (FoundAs R b) (find_last p a) (find_last p b)
  last-shuffled {R} p {a} {b} s f i j = go (find-shuffled p s f j)
    where
      go : OptionRel (FoundAs R b) (find p a) (find p b) → OptionRel (FoundAs R b) (find_last p a) (find_last p b)
      go (neither e g) = neither (last-first p a i ∙ e) (last-first p b j ∙ g)
      go (both_hold e g r) = both_hold (last-first p a i ∙ e) (last-first p b j ∙ g) r

  pub last-perm : (p : A → Bool) {a b : List A} → Permᴰ a b → AtMostOne p a → AtMostOne p b → find_last p a ≡ find_last p b
  last-perm p d i j = option-cong (λ (o : Option A). o) (last-shuffled p (exactly d) (λ x y e. ap p e) i j) (λ x y r. ap Some r.0)

  -- by name ---------------------------------------------------------------------------------------------------------------

  module _ (name : A → Str) where
    pub named-once : (n : Str) (l : List A) → NoDup (map name l) → AtMostOne (λ (x : A). eqs (name x) n) l
    named-once n l d x y i j e f = key-only name l d i j (eqs→eq (name x) n e ∙ sym (eqs→eq (name y) n f))

    -- two lists in strict byte order of their names, with the same elements
    sorted_ext : (a b : List A) → Sorted name a → Sorted name b → ((x : A) → Memᴰ x a → Memᴰ x b)
        → ((x : A) → Memᴰ x b → Memᴰ x a) → a ≡ b
    sorted_ext [] [] s t f g = refl
    sorted_ext [] (y ∷ ys) s t f g = absurd (Memᴰ.not-nil (g y (Memᴰ.head refl)))
    sorted_ext (x ∷ xs) [] s t f g = absurd (Memᴰ.not-nil (f x (Memᴰ.head refl)))
    sorted_ext (x ∷ xs) (y ∷ ys) s t f g =
        ap₂ ◌∷◌ same (sorted_ext xs ys s.1 t.1 (λ z m. rest x y xs ys s.0 same z m (f z (Memᴰ.tail m)))
        (λ z m. rest y x ys xs t.0 (sym same) z m (g z (Memᴰ.tail m))))
      where
        heads : Memᴰ x (y ∷ ys) → Memᴰ y (x ∷ xs) → x ≡ y
        heads (Memᴰ.head e) j = e
        heads (Memᴰ.tail i) (Memᴰ.head e) = sym e
        heads (Memᴰ.tail i) (Memᴰ.tail j) = absurd (before-irrefl (name x) (before-trans (name x) (name y) (name x) (s.0 y j) (t.0 x i)))

        same : x ≡ y
        same = heads (f x (Memᴰ.head refl)) (g y (Memᴰ.head refl))

        rest : (p q : A) (ps qs : List A) → ((z : A) → Memᴰ z ps → before (name p) (name z) ≡ true) → p ≡ q
            → (z : A) → Memᴰ z ps → Memᴰ z (q ∷ qs) → Memᴰ z qs
        rest p q ps qs h e z m (Memᴰ.head k) =
            absurd (before-irrefl (name p) (subst (λ (u : A). before (name p) (name u) ≡ true) (k ∙ sym e) (h z m)))
        rest p q ps qs h e z m (Memᴰ.tail i) = i

    -- what was put in stands in the map, where no name stands twice
    mem-sorted : (l : List A) → NoDup (map name l) → {x : A} → Memᴰ x l → Memᴰ x (sorted name l)
    mem-sorted l d {x} m =
        let p : A → Bool = λ (y : A). eqs (name y) (name x) in
        let one = named-once (name x) l d in
        let here = find-only p l m (eqs-refl (name x)) (λ y i e. one y x i m e (eqs-refl (name x))) in
        (find-some p (sorted name l) (sorted-last name (name x) l ∙ last-first p l one ∙ here)).0

    -- maps by name are equal
    pub sorted-perm : {a b : List A} → Permᴰ a b → NoDup (map name a) → NoDup (map name b) → sorted name a ≡ sorted name b
    sorted-perm {a} {b} p d e =
        sorted_ext (sorted name a) (sorted name b) (sorted-sorted name a) (sorted-sorted name b)
        (λ x m. mem-sorted b e (perm-mem p (sorted-mem name a m))) (λ x m. mem-sorted a d (perm-mem (Permᴰ.symm p) (sorted-mem name b m)))
