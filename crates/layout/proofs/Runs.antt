-- The last of each run of the stable sort is the map by name, and a map goes through it. Assumes nothing.
use Rattle.std.specs.Prelude.{Option, Some, None}
use mathlib.Core.Path.{◌≡◌, refl, sym, ◌∙◌, ap, ap₂}
use mathlib.Core.List.Memᴰ
use mathlib.Core.List.{List, [], ◌∷◌, map, Memᴰ}
use mathlib.Core.Bool.{Bool, true, false, cond, false≢true}
use mathlib.Core.Logic.{◌⊎◌, inl, inr}
use Prim.Native.Nat.{ℕ}
use native.Mathlib.Omega.{arith}
use Rattle.record.specs.Base.{Str, eqs, before, find, last_or, find_last}
use Rattle.record.proofs.Basics.{both, eqs→eq, eqs-refl, find-some}
use Rattle.layout.specs.Sorted.{insert, insert_all, sorted}
use Rattle.layout.specs.Sort.{put, arranged, ends_run, lasts, ascends}
use Rattle.layout.proofs.Order.{before-trans, before-irrefl, before-total, before-co, Sorted, not_after, not-self, sorted-sorted, sorted-last}

-- two lists in strict order with the same look-ups are one ----------------------------------------------------------------

module _ {A : Type 0} (name : A → Str) where
  abbrev at_name : Str → List A → Option A
  at_name n l = find (λ (u : A). eqs (name u) n) l

  first_found : (x : A) (l : List A) → at_name (name x) (x ∷ l) ≡ Some x
  unfolding find
  first_found x l = rw (eqs-refl (name x))

  later-none : (x : A) (l : List A) (n : Str) → ((y : A) → Memᴰ y l → before (name x) (name y) ≡ true) → eqs (name x) n ≡ true → at_name n l ≡ None
  later-none x l n s e = go (at_name n l) refl
    where
      go : (o : Option A) → at_name n l ≡ o → o ≡ None
      go None f = refl
      go (Some u) f =
          let k = find-some (λ (v : A). eqs (name v) n) l f in
          absurd (false≢true (sym (not-self (name x) (name u) (eqs→eq (name x) n e ∙ sym (eqs→eq (name u) n k.1))) ∙ s u k.0))

  one_list : (l m : List A) → Sorted name l → Sorted name m → ((n : Str) → at_name n l ≡ at_name n m) → l ≡ m
  unfolding find
  one_list [] [] s t f = refl
  one_list [] (y ∷ m) s t f = absurd (let e = f (name y) ∙ first_found y m in let z : ◌≡◌ {A = ℕ} 0 1 = cc in omega arith)
  one_list (x ∷ l) [] s t f = absurd (let e = sym (f (name x)) ∙ first_found x l in let z : ◌≡◌ {A = ℕ} 0 1 = cc in omega arith)
  one_list (x ∷ l) (y ∷ m) s t f =
      ap₂ (λ (a : A) (r : List A). a ∷ r) same (one_list l m s.1 t.1 (λ n. rest n (eqs (name x) n) refl))
    where
      same : x ≡ y
      same =
          go (find-some (λ (u : A). eqs (name u) (name x)) (y ∷ m) (sym (f (name x)) ∙ first_found x l)).0
          (find-some (λ (u : A). eqs (name u) (name y)) (x ∷ l) (f (name y) ∙ first_found y m)).0
        where
          go : Memᴰ x (y ∷ m) → Memᴰ y (x ∷ l) → x ≡ y
          go (Memᴰ.head e) k = e
          go (Memᴰ.tail i) (Memᴰ.head e) = sym e
          go (Memᴰ.tail i) (Memᴰ.tail j) = absurd (before-irrefl (name x) (before-trans (name x) (name y) (name x) (s.0 y j) (t.0 x i)))

      rest : (n : Str) (b : Bool) → eqs (name x) n ≡ b → at_name n l ≡ at_name n m
      rest n true e = later-none x l n s.0 e ∙ sym (later-none y m n t.0 (ap (λ (a : A). eqs (name a) n) (sym same) ∙ e))
      rest n false e = rw (e, ap (λ (a : A). eqs (name a) n) (sym same) ∙ e) at (f n)

module _ (key : ℕ → Str) where
  -- no later name goes before an earlier one
  abbrev InOrder : List ℕ → Type 0
  InOrder [] = Unit {0}
  InOrder (x ∷ l) = ((y : ℕ) → Memᴰ y l → before (key y) (key x) ≡ false) × InOrder l

  put-mem : (x : ℕ) (l : List ℕ) {u : ℕ} → Memᴰ u (put key x l) → (u ≡ x) ⊎ Memᴰ u l
  unfolding put
  put-mem x [] (Memᴰ.head e) = inl e
  put-mem x [] (Memᴰ.tail m) = inr m
  put-mem x (y ∷ ys) {u} m = go (before (key y) (key x)) (λ n. put-mem x ys n) m
    where
      later : (u ≡ x) ⊎ Memᴰ u ys → (u ≡ x) ⊎ Memᴰ u (y ∷ ys)
      later (inl e) = inl e
      later (inr n) = inr (Memᴰ.tail n)

      go : (b : Bool) → (Memᴰ u (put key x ys) → (u ≡ x) ⊎ Memᴰ u ys) → Memᴰ u (cond b (y ∷ put key x ys) (x ∷ y ∷ ys)) → (u ≡ x) ⊎ Memᴰ u (y ∷ ys)
      go true r (Memᴰ.head e) = inr (Memᴰ.head e)
      go true r (Memᴰ.tail n) = later (r n)
      go false r (Memᴰ.head e) = inl e
      go false r (Memᴰ.tail n) = inr n

  -- what is not before y, where y is not before x, is not before x
  chain : (a y x : Str) → before a y ≡ false → before y x ≡ false → before a x ≡ false
  chain a y x p q = go (before a x) refl
    where
      go : (b : Bool) → before a x ≡ b → b ≡ false
      go true e = absurd (false≢true (sym p ∙ before-co a y x e q))
      go false e = refl

  put_order : (x : ℕ) (l : List ℕ) → InOrder l → InOrder (put key x l)
  unfolding put
  put_order x [] o = (λ u m. absurd (Memᴰ.not-nil m), tt)
  put_order x (y ∷ ys) o = go (before (key y) (key x)) refl (put_order x ys o.1)
    where
      over : before (key y) (key x) ≡ true → (u : ℕ) → (u ≡ x) ⊎ Memᴰ u ys → before (key u) (key y) ≡ false
      over e u (inl i) = ap (λ (v : ℕ). before (key v) (key y)) i ∙ not_after (key y) (key x) e
      over e u (inr m) = o.0 u m

      under : before (key y) (key x) ≡ false → (u : ℕ) → Memᴰ u (y ∷ ys) → before (key u) (key x) ≡ false
      under e u (Memᴰ.head i) = ap (λ (v : ℕ). before (key v) (key x)) i ∙ e
      under e u (Memᴰ.tail m) = chain (key u) (key y) (key x) (o.0 u m) e

      go : (b : Bool) → before (key y) (key x) ≡ b → InOrder (put key x ys) → InOrder (cond b (y ∷ put key x ys) (x ∷ y ∷ ys))
      go true e r = (λ u m. over e u (put-mem x ys m), r)
      go false e r = (under e, o)

  arranged-order : (l : List ℕ) → InOrder (arranged key l)
  unfolding arranged
  arranged-order [] = tt
  arranged-order (x ∷ l) = put_order x (arranged key l) (arranged-order l)

  lasts-mem : (l : List ℕ) {u : ℕ} → Memᴰ u (lasts key l) → Memᴰ u l
  unfolding lasts
  lasts-mem [] m = m
  lasts-mem (x ∷ l) {u} m = go (ends_run key (x ∷ l)) (λ n. lasts-mem l n) m
    where
      go : (b : Bool) → (Memᴰ u (lasts key l) → Memᴰ u l) → Memᴰ u (cond b (x ∷ lasts key l) (lasts key l)) → Memᴰ u (x ∷ l)
      go true r (Memᴰ.head e) = Memᴰ.head e
      go true r (Memᴰ.tail n) = Memᴰ.tail (r n)
      go false r n = Memᴰ.tail (r n)

  -- where a run ends, all that follow are other names
  run-over : (x : ℕ) (l : List ℕ) → InOrder l → ends_run key (x ∷ l) ≡ true → (u : ℕ) → Memᴰ u l → before (key x) (key u) ≡ true
  unfolding ends_run
  run-over x [] o e u m = absurd (Memᴰ.not-nil m)
  run-over x (y ∷ l) o e u (Memᴰ.head i) = ap (λ (v : ℕ). before (key x) (key v)) i ∙ e
  run-over x (y ∷ l) o e u (Memᴰ.tail m) = before-co (key x) (key u) (key y) e (o.0 u m)

  lasts-sorted : (l : List ℕ) → InOrder l → Sorted key (lasts key l)
  unfolding lasts
  lasts-sorted [] o = tt
  lasts-sorted (x ∷ l) o = go (ends_run key (x ∷ l)) refl (lasts-sorted l o.1)
    where
      go : (b : Bool) → ends_run key (x ∷ l) ≡ b → Sorted key (lasts key l) → Sorted key (cond b (x ∷ lasts key l) (lasts key l))
      go true e r = (λ u m. run-over x l o.1 e u (lasts-mem l m), r)
      go false e r = r

  module _ (n : Str) where
    abbrev named : ℕ → Bool
    named u = eqs (key u) n

    abbrev newer : ℕ → Option ℕ → Option ℕ
    newer x o = cond (named x) (Some x) o

    last_none : (o : Option ℕ) (l : List ℕ) → ((u : ℕ) → Memᴰ u l → named u ≡ false) → last_or o named l ≡ o
    unfolding last_or
    last_none o [] h = refl
    last_none o (x ∷ l) h = rw (h x (Memᴰ.head refl)) (last_none o l (λ u m. h u (Memᴰ.tail m)))

    apart : (x u : ℕ) → before (key x) (key u) ≡ true → named x ≡ true → named u ≡ false
    apart x u h e = go (named u) refl
      where
        go : (b : Bool) → named u ≡ b → b ≡ false
        go true f = absurd (false≢true (sym (not-self (key x) (key u) (eqs→eq (key x) n e ∙ sym (eqs→eq (key u) n f))) ∙ h))
        go false f = refl

    -- in an ordered list the last of a name is the one that its run keeps
    found-last : (l : List ℕ) → InOrder l → find named (lasts key l) ≡ last_or None named l
    unfolding find last_or lasts ends_run
    found-last [] o = refl
    found-last (x ∷ []) o = refl
    found-last (x ∷ y ∷ l) o = go (before (key x) (key y)) refl (named x) refl (found-last (y ∷ l) o.1)
      where
        same_name : before (key x) (key y) ≡ false → key y ≡ key x
        same_name e = pick (eqs (key x) (key y)) refl
          where
            pick : (b : Bool) → eqs (key x) (key y) ≡ b → key y ≡ key x
            pick true f = sym (eqs→eq (key x) (key y) f)
            pick false f = absurd (false≢true (sym (o.0 y (Memᴰ.head refl)) ∙ before-total (key x) (key y) f e))

        go : (b : Bool) → before (key x) (key y) ≡ b → (c : Bool) → named x ≡ c → find named (lasts key (y ∷ l)) ≡ last_or None named (y ∷ l)
            → find named (cond b (x ∷ lasts key (y ∷ l)) (lasts key (y ∷ l))) ≡ last_or (newer x None) named (y ∷ l)
        go true e true f ih =
            ap (λ (t : Bool). cond t (Some x) (find named (lasts key (y ∷ l)))) f
            ∙ sym (last_none (Some x) (y ∷ l) (λ u m. apart x u (run-over x (y ∷ l) o.1 e u m) f))
            ∙ ap (λ (t : Bool). last_or (cond t (Some x) None) named (y ∷ l)) (sym f)
        go true e false f ih = rw f ih
        go false e c f ih = ih ∙ skip (named y) refl
          where
            skip : (d : Bool) → named y ≡ d → last_or None named (y ∷ l) ≡ last_or (newer x None) named (y ∷ l)
            skip true g = rw g
            skip false g = rw (ap (λ (k : Str). eqs k n) (sym (same_name e)) ∙ g)

    -- the sort leaves the last of each name the last
    put_last : (o : Option ℕ) (x : ℕ) (l : List ℕ) → last_or o named (put key x l) ≡ last_or (newer x o) named l
    unfolding last_or put
    put_last o x [] = refl
    put_last o x (y ∷ ys) = go (before (key y) (key x)) refl (put_last (newer y o) x ys)
      where
        swap : (c d : Bool) → named y ≡ c → named x ≡ d → before (key y) (key x) ≡ true → newer x (newer y o) ≡ newer y (newer x o)
        swap true true e f h = absurd (false≢true (sym (apart y x h e) ∙ f))
        swap true false e f h = rw (e, f)
        swap false d e f h = rw e

        go : (b : Bool) → before (key y) (key x) ≡ b → last_or (newer y o) named (put key x ys) ≡ last_or (newer x (newer y o)) named ys
            → last_or o named (cond b (y ∷ put key x ys) (x ∷ y ∷ ys)) ≡ last_or (newer y (newer x o)) named ys
        go true e ih = ih ∙ ap (λ (q : Option ℕ). last_or q named ys) (swap (named y) (named x) refl refl e)
        go false e ih = refl

    arranged-last : (o : Option ℕ) (l : List ℕ) → last_or o named (arranged key l) ≡ last_or o named l
    unfolding last_or arranged
    arranged-last o [] = refl
    arranged-last o (x ∷ l) = put_last o x (arranged key l) ∙ arranged-last (newer x o) l

  -- of the sorted list the last of each run: the map by name
  pub lasts_are : (l : List ℕ) → lasts key (arranged key l) ≡ sorted key l
  unfolding find_last
  lasts_are l =
      one_list key (lasts key (arranged key l)) (sorted key l) (lasts-sorted (arranged key l) (arranged-order l)) (sorted-sorted key l)
      (λ n. found-last n (arranged key l) (arranged-order l) ∙ arranged-last n None l ∙ sym (sorted-last key n l))

-- a list in strict order --------------------------------------------------------------------------------------------------

module _ (key : ℕ → Str) where
  arranged-as-is : (l : List ℕ) → ascends key l ≡ true → arranged key l ≡ l
  unfolding ascends arranged put ends_run
  arranged-as-is [] e = refl
  arranged-as-is (x ∷ []) e = refl
  arranged-as-is (x ∷ y ∷ l) e =
      let h = both (before (key x) (key y)) (ascends key (y ∷ l)) e in
      rw (arranged-as-is (y ∷ l) h.1, not_after (key x) (key y) h.0)

  lasts-as-is : (l : List ℕ) → ascends key l ≡ true → lasts key l ≡ l
  unfolding ascends lasts
  lasts-as-is [] e = refl
  lasts-as-is (x ∷ l) e = let h = both (ends_run key (x ∷ l)) (ascends key l) e in rw (h.0, lasts-as-is l h.1)

  -- it is arranged, and of each name there is one
  pub lasts-ascending : (l : List ℕ) → ascends key l ≡ true → lasts key (arranged key l) ≡ l
  lasts-ascending l e = ap (lasts key) (arranged-as-is l e) ∙ lasts-as-is l e

-- a map by the names of what a function gives ------------------------------------------------------------------------------

module _ {A B : Type 0} (f : A → B) (name : B → Str) where
  abbrev key_of : A → Str
  key_of a = name (f a)

  map-insert : (x : A) (l : List A) → map f (insert key_of x l) ≡ insert name (f x) (map f l)
  unfolding insert
  map-insert x [] = refl
  map-insert x (y ∷ ys) = go (eqs (name (f x)) (name (f y))) (before (name (f x)) (name (f y))) (map-insert x ys)
    where
      go : (b c : Bool) → map f (insert key_of x ys) ≡ insert name (f x) (map f ys)
          → map f (cond b (x ∷ ys) (cond c (x ∷ y ∷ ys) (y ∷ insert key_of x ys)))
          ≡ cond b (f x ∷ map f ys) (cond c (f x ∷ f y ∷ map f ys) (f y ∷ insert name (f x) (map f ys)))
      go true c ih = refl
      go false true ih = refl
      go false false ih = ap (λ (l : List B). f y ∷ l) ih

  map-insert_all : (xs acc : List A) → map f (insert_all key_of xs acc) ≡ insert_all name (map f xs) (map f acc)
  unfolding insert_all
  map-insert_all [] acc = refl
  map-insert_all (x ∷ xs) acc = map-insert_all xs (insert key_of x acc) ∙ ap (insert_all name (map f xs)) (map-insert x acc)

  pub map-sorted : (l : List A) → map f (sorted key_of l) ≡ sorted name (map f l)
  unfolding sorted
  map-sorted l = map-insert_all l []
