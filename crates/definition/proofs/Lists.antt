-- Lists of anything: tests that all elements pass, and lists that are another in some order. Assumes nothing.
use mathlib.Core.Path.{◌≡◌, refl, sym, ◌∙◌, ap, subst}
use mathlib.Core.List.Memᴰ
use mathlib.Core.List.Permᴰ
use mathlib.Core.List.{List, [], ◌∷◌, ◌++◌, map, flatten, flat_map, Memᴰ, Forall₂, Permᴰ}
use mathlib.Core.Bool.{Bool, true}
use mathlib.Core.Logic.{◌⊎◌, inl, inr}
use Rattle.record.specs.Base.{Str}
use Rattle.record.proofs.Basics.{both}
use Rattle.definition.specs.Pass.{all_of}
use Rattle.definition.specs.Chain.{NoDup}
use Rattle.definition.specs.Sections.{Shuffled}

module _ {A : Type 0} where
  -- tests -----------------------------------------------------------------------------------------------------------------

  pub all-of : (p : A → Bool) (l : List A) → all_of p l ≡ true → {x : A} → Memᴰ x l → p x ≡ true
  unfolding all_of
  all-of p [] h m = absurd (Memᴰ.not-nil m)
  all-of p (y ∷ ys) h (Memᴰ.head e) = ap p e ∙ (both (p y) (all_of p ys) h).0
  all-of p (y ∷ ys) h (Memᴰ.tail m) = all-of p ys (both (p y) (all_of p ys) h).1 m

  pub of-all : (p : A → Bool) (l : List A) → ((x : A) → Memᴰ x l → p x ≡ true) → all_of p l ≡ true
  unfolding all_of
  of-all p [] h = refl
  of-all p (y ∷ ys) h = rw (h y (Memᴰ.head refl), of-all p ys (λ x m. h x (Memᴰ.tail m)))

  pub mem-flatten : (ls : List (List A)) {x : A} → Memᴰ x (flatten ls) → (l : List A) × Memᴰ l ls × Memᴰ x l
  unfolding flatten
  mem-flatten [] m = absurd (Memᴰ.not-nil m)
  mem-flatten (l ∷ ls) {x} m = go (Memᴰ.append_cases l m) (λ n. mem-flatten ls n)
    where
      go : Memᴰ x l ⊎ Memᴰ x (flatten ls) → (Memᴰ x (flatten ls) → (k : List A) × Memᴰ k ls × Memᴰ x k)
          → (k : List A) × Memᴰ k (l ∷ ls) × Memᴰ x k
      go (inl n) r = (l, Memᴰ.head refl, n)
      go (inr n) r = let w = r n in (w.0, Memᴰ.tail w.1, w.2)

  -- permutations ----------------------------------------------------------------------------------------------------------

  pub perm-mem : {a b : List A} → Permᴰ a b → {x : A} → Memᴰ x a → Memᴰ x b
  perm-mem Permᴰ.nil m = m
  perm-mem (Permᴰ.cons e d) (Memᴰ.head q) = Memᴰ.head (q ∙ e)
  perm-mem (Permᴰ.cons e d) (Memᴰ.tail m) = Memᴰ.tail (perm-mem d m)
  perm-mem (Permᴰ.swap e f) (Memᴰ.head q) = Memᴰ.tail (Memᴰ.head (q ∙ e))
  perm-mem (Permᴰ.swap e f) (Memᴰ.tail (Memᴰ.head q)) = Memᴰ.head (q ∙ f)
  perm-mem (Permᴰ.swap e f) (Memᴰ.tail (Memᴰ.tail m)) = Memᴰ.tail (Memᴰ.tail m)
  perm-mem (Permᴰ.trans d f) m = perm-mem f (perm-mem d m)

  pub all-perm : (p : A → Bool) {a b : List A} → Permᴰ a b → all_of p a ≡ true → all_of p b ≡ true
  all-perm p {a} {b} d h = of-all p b (λ x m. all-of p a h (perm-mem (Permᴰ.symm d) m))

  pub perm-eq : {a b : List A} → a ≡ b → Permᴰ a b
  perm-eq {a} e = subst (Permᴰ a) e (Permᴰ.refl a)

  pub perm-by : {a b c d : List A} → a ≡ c → b ≡ d → Permᴰ c d → Permᴰ a b
  perm-by e f p = Permᴰ.trans (perm-eq e) (Permᴰ.trans p (perm-eq (sym f)))

  pub perm-append : {a b c d : List A} → Permᴰ a b → Permᴰ c d → Permᴰ (a ++ c) (b ++ d)
  perm-append {b = b} {c = c} p q = Permᴰ.trans (Permᴰ.append_right c p) (Permᴰ.append_left b q)

  perm-past : (a b l : List A) → Permᴰ (a ++ (b ++ l)) (b ++ (a ++ l))
  perm-past [] b l = Permᴰ.refl (b ++ l)
  perm-past (x ∷ a) b l = Permᴰ.trans (Permᴰ.cons refl (perm-past a b l)) (Permᴰ.symm (Permᴰ.middle x b (a ++ l)))

  pub flatten-map : (ls : List (List A)) → flatten ls ≡ flat_map (λ (l : List A). l) ls
  unfolding flatten flat_map
  flatten-map [] = refl
  flatten-map (l ∷ ls) = ap (λ (r : List A). l ++ r) (flatten-map ls)

  -- element by element ----------------------------------------------------------------------------------------------------

  module _ {R : A → A → Type 0} where
    related-there : {a b : List A} → Forall₂ R a b → {x : A} → Memᴰ x a → (y : A) × Memᴰ y b × R x y
    related-there Forall₂.nil m = absurd (Memᴰ.not-nil m)
    related-there (Forall₂.cons {b = y} r p) (Memᴰ.head e) = (y, Memᴰ.head refl, subst (λ (z : A). R z y) (sym e) r)
    related-there (Forall₂.cons r p) (Memᴰ.tail m) = let w = related-there p m in (w.0, Memᴰ.tail w.1, w.2)

    related-back : {a b : List A} → Forall₂ R a b → {y : A} → Memᴰ y b → (x : A) × Memᴰ x a × R x y
    related-back Forall₂.nil m = absurd (Memᴰ.not-nil m)
    related-back (Forall₂.cons {a = x} r p) (Memᴰ.head e) = (x, Memᴰ.head refl, subst (R x) (sym e) r)
    related-back (Forall₂.cons r p) (Memᴰ.tail m) = let w = related-back p m in (w.0, Memᴰ.tail w.1, w.2)

    related-append : {a b c d : List A} → Forall₂ R a b → Forall₂ R c d → Forall₂ R (a ++ c) (b ++ d)
    related-append Forall₂.nil q = q
    related-append (Forall₂.cons r p) q = Forall₂.cons r (related-append p q)

    pub related-refl : ((x : A) → R x x) → (l : List A) → Forall₂ R l l
    related-refl h [] = Forall₂.nil
    related-refl h (x ∷ xs) = Forall₂.cons (h x) (related-refl h xs)

    pub related-by : {a b c d : List A} → a ≡ c → b ≡ d → Forall₂ R c d → Forall₂ R a b
    related-by {b = b} {c = c} e f p = subst (λ (l : List A). Forall₂ R l b) (sym e) (subst (Forall₂ R c) (sym f) p)

    -- a permutation, then element by element, is element by element, then a permutation
    commute : {a m b : List A} → Permᴰ a m → Forall₂ R m b → (k : List A) × Forall₂ R a k × Permᴰ k b
    commute Permᴰ.nil Forall₂.nil = ([], Forall₂.nil, Permᴰ.nil)
    commute (Permᴰ.cons e d) (Forall₂.cons {b = y} r p) =
        let w = commute d p in
        (y ∷ w.0, Forall₂.cons (subst (λ (z : A). R z y) (sym e) r) w.1, Permᴰ.cons refl w.2)
    commute (Permᴰ.swap e f) (Forall₂.cons {b = y} r (Forall₂.cons {b = z} {l₂ = l} q p)) = (
      z ∷ y ∷ l,
      Forall₂.cons (subst (λ (u : A). R u z) (sym e) q) (Forall₂.cons (subst (λ (u : A). R u y) (sym f) r) p),
      Permᴰ.swap refl refl,
    )
    commute (Permᴰ.trans d f) p =
        let w = commute f p in
        let v = commute d w.1 in
        (v.0, v.1, Permᴰ.trans v.2 w.2)

    -- in some order -------------------------------------------------------------------------------------------------------

    pub shuffled-there : {a b : List A} → Shuffled R a b → {x : A} → Memᴰ x a → (y : A) × Memᴰ y b × R x y
    shuffled-there s m = related-there s.related (perm-mem s.permuted m)

    pub shuffled-back : {a b : List A} → Shuffled R a b → {y : A} → Memᴰ y b → (x : A) × Memᴰ x a × R x y
    shuffled-back s m = let w = related-back s.related m in (w.0, perm-mem (Permᴰ.symm s.permuted) w.1, w.2)

    pub shuffled-by : {a b c d : List A} → a ≡ c → b ≡ d → Shuffled R c d → Shuffled R a b
    shuffled-by {b = b} {c = c} e f s = subst (λ (l : List A). Shuffled R l b) (sym e) (subst (Shuffled R c) (sym f) s)

    related-sym : ((x y : A) → R x y → R y x) → {a b : List A} → Forall₂ R a b → Forall₂ R b a
    related-sym h Forall₂.nil = Forall₂.nil
    related-sym h (Forall₂.cons {a = x} {b = y} r p) = Forall₂.cons (h x y r) (related-sym h p)

    pub shuffled-sym : ((x y : A) → R x y → R y x) → {a b : List A} → Shuffled R a b → Shuffled R b a
    shuffled-sym h s =
        let w = commute s.permuted s.related in
        record { between = w.0; permuted = Permᴰ.symm w.2; related = related-sym h w.1 }

pub nodup-perm : {a b : List Str} → Permᴰ a b → NoDup a → NoDup b
nodup-perm Permᴰ.nil d = d
nodup-perm (Permᴰ.cons e p) d = (λ m. d.0 (perm-mem (Permᴰ.symm p) (Memᴰ.cast e m)), nodup-perm p d.1)
nodup-perm (Permᴰ.swap {a' = x} {b' = y} {l = l} e f) d = (other, (λ m. d.0 (Memᴰ.tail (Memᴰ.cast e m)), d.1.1))
  where
    other : Memᴰ x (y ∷ l) → ⊥
    other (Memᴰ.head q) = d.0 (Memᴰ.head (e ∙ sym q ∙ sym f))
    other (Memᴰ.tail m) = d.1.0 (Memᴰ.cast f m)
nodup-perm (Permᴰ.trans p q) d = nodup-perm q (nodup-perm p d)

module _ {A B : Type 0} where
  pub perm-flat_map : (f : A → List B) {a b : List A} → Permᴰ a b → Permᴰ (flat_map f a) (flat_map f b)
  unfolding flat_map
  perm-flat_map f Permᴰ.nil = Permᴰ.nil
  perm-flat_map f (Permᴰ.cons e d) = perm-append (perm-eq (ap f e)) (perm-flat_map f d)
  perm-flat_map f (Permᴰ.swap {a = a} {b = b} {l = l} e g) =
      Permᴰ.trans (perm-past (f a) (f b) (flat_map f l))
      (perm-append (perm-eq (ap f g)) (perm-append (perm-eq (ap f e)) (Permᴰ.refl (flat_map f l))))
  perm-flat_map f (Permᴰ.trans p q) = Permᴰ.trans (perm-flat_map f p) (perm-flat_map f q)

  module _ {R : A → A → Type 0} where
    related-flat_map : (f g : A → List B) → ((x y : A) → R x y → Permᴰ (f x) (g y)) → {a b : List A} → Forall₂ R a b
        → Permᴰ (flat_map f a) (flat_map g b)
    unfolding flat_map
    related-flat_map f g h Forall₂.nil = Permᴰ.nil
    related-flat_map f g h (Forall₂.cons {a = x} {b = y} r p) = perm-append (h x y r) (related-flat_map f g h p)

    related-map : (f : A → B) → ((x y : A) → R x y → f x ≡ f y) → {a b : List A} → Forall₂ R a b → Permᴰ (map f a) (map f b)
    related-map f h Forall₂.nil = Permᴰ.nil
    related-map f h (Forall₂.cons {a = x} {b = y} r p) = Permᴰ.cons (h x y r) (related-map f h p)

    related-over : {S : B → B → Type 0} (f : A → List B) → ((x y : A) → R x y → Forall₂ S (f x) (f y)) → {a b : List A} → Forall₂ R a b
        → Forall₂ S (flat_map f a) (flat_map f b)
    unfolding flat_map
    related-over f h Forall₂.nil = Forall₂.nil
    related-over f h (Forall₂.cons {a = x} {b = y} r p) = related-append (h x y r) (related-over f h p)

    -- what the elements give, in some order
    pub shuffled-flat_map : (f g : A → List B) → ((x y : A) → R x y → Permᴰ (f x) (g y)) → {a b : List A} → Shuffled R a b
        → Permᴰ (flat_map f a) (flat_map g b)
    shuffled-flat_map f g h s = Permᴰ.trans (perm-flat_map f s.permuted) (related-flat_map f g h s.related)

    pub shuffled-map : (f : A → B) → ((x y : A) → R x y → f x ≡ f y) → {a b : List A} → Shuffled R a b → Permᴰ (map f a) (map f b)
    shuffled-map f h s = Permᴰ.trans (Permᴰ.map f s.permuted) (related-map f h s.related)

    pub shuffled-over : {S : B → B → Type 0} (f : A → List B) → ((x y : A) → R x y → Forall₂ S (f x) (f y)) → {a b : List A} → Shuffled R a b
        → Shuffled S (flat_map f a) (flat_map f b)
    shuffled-over f h s = record { between = flat_map f s.between; permuted = perm-flat_map f s.permuted; related = related-over f h s.related }
