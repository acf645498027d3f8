-- Names in parts: their bytes, their order, and the names of types. Assumes nothing.
use Rattle.std.specs.Prelude.{Some, None}
use Prim.Native.Nat.{ℕ, zero, suc, ◌+◌, ◌-◌, ◌≤◌, ◌<◌}
use mathlib.Core.List.{[], ◌∷◌, ◌++◌, append-nil}
use mathlib.Core.Bool.{Bool, true, false, ◌&&◌, ◌||◌, cond, false≢true}
use mathlib.Core.Path.{◌≡◌, refl, sym, ap, subst, ◌∙◌}
use native.Mathlib.Omega.{arith}
use lib.ListN.{length, take, drop, get_or, length-append, get_or-append}
use lib.Seq.{get_or-append-add, length-take-le}
use lib.Dec.{eqb, ltb}
use borrow.Author.Tests.{eq-eqb, ne_eqb, eqb-true, le-ltb, ltb-true, ltb-false}
use Rattle.record.specs.Base.{Str, eqs, before}
use Rattle.record.specs.Stretch.{text_of}
use Rattle.record.specs.Operands.{text_at}
use Rattle.record.specs.Write.{Puts}
use Rattle.record.specs.declared.text.Text.{Text}
use Rattle.record.proofs.Basics.{both, eqs→eq}
use Rattle.record.proofs.WriterLaws.{puts_then}
use Rattle.record.specs.Words.{Skipped}
use Rattle.layout.specs.Layout.{variant_name}
use Rattle.layout.specs.Handles.{name_at, family_part, place_part, type_name}
use Rattle.layout.specs.Names.{composed, front_of, colons_of, back_of, has_parts, Parts, name_of, name_text_at, stretches_of}
use Rattle.layout.specs.declared.names.TypeName.{TypeName}
use Rattle.record.proofs.WordLaws.{before-next, before-below, before_above, before-longer, before-shorter, before-end, before-skip}

-- the text at a place -----------------------------------------------------------------------------------------------------

module _ (s : Str) (at : ℕ) where
  pub text-there : (x : Str) (t : Text) → x ≡ drop at s → t ≡ text_at x 1 → t ≡ name_text_at s at
  unfolding name_text_at
  text-there x t e f = f ∙ ap (λ (y : Str). text_at y 1) e

  pub name-is : (p : Str) (t : Text) (x : Str) → t ≡ name_text_at s at → x ≡ text_of p t → x ≡ name_at s p at
  unfolding name_at name_text_at
  name-is p t x e f = f ∙ ap (text_of p) e

-- the stretches of a type's name ------------------------------------------------------------------------------------------

module _ (s : Str) (h f at : ℕ) (t : Text) where
  pub stretches-plain : f ≡ family_part h → f ≡ 0 → at ≡ place_part h → t ≡ name_text_at s at → record { front = t; back = None } ≡ stretches_of s h
  unfolding stretches_of
  stretches-plain e z a b = rw (eq-eqb (family_part h) 0 (sym e ∙ z), sym a, sym b)

  pub stretches-variant : (u : Text) → f ≡ family_part h → (f ≡ 0 → ⊥) → at ≡ place_part h → t ≡ name_text_at s at → u ≡ name_text_at s (f - 1)
      → record { front = u; back = Some t } ≡ stretches_of s h
  unfolding stretches_of
  stretches-variant u e z a b d = rw (ne_eqb (family_part h) 0 (λ q. z (e ∙ q)), sym a, sym b, sym e, sym d)

-- they read as the name
pub stretches-read : (s p : Str) (h : ℕ) → name_of p (stretches_of s h) ≡ type_name s p h
unfolding stretches_of type_name name_at name_text_at
stretches-read s p h = go (eqb (family_part h) 0)
  where
    go : (b : Bool)
        → name_of p (cond b (record { front = name_text_at s (place_part h); back = None }) (record { front = name_text_at s (family_part h - 1); back = Some (name_text_at s (place_part h)) }))
        ≡ cond b (name_at s p (place_part h)) (variant_name (name_at s p (family_part h - 1)) (name_at s p (place_part h)))
    go true = refl
    go false = refl

-- bytes of a name in parts ------------------------------------------------------------------------------------------------

abbrev colons : Str
colons = 58 ∷ 58 ∷ []

module _ (f : Str) (k : ℕ) (b : Str) (i : ℕ) where
  pub byte-front : i < length f → get_or f i 0 ≡ get_or (composed f k b) i 0
  unfolding composed
  byte-front h = sym (get_or-append f (take k colons ++ b) 0 i h)

  split : length f ≤ i → get_or (composed f k b) i 0 ≡ get_or (take k colons ++ b) (i - length f) 0
  unfolding composed
  split h =
      let e : length f + (i - length f) ≡ i = omega arith in
      subst (λ (n : ℕ). get_or (f ++ (take k colons ++ b)) n 0 ≡ get_or (take k colons ++ b) (i - length f) 0) e (get_or-append-add f (take k colons ++ b) (i - length f) 0)

colon : (k j : ℕ) (b : Str) → k ≤ 2 → j < k → 58 ≡ get_or (take k colons ++ b) j 0
colon zero j b h l = absurd (omega arith)
colon (suc k) zero b h l = refl
colon (suc zero) (suc j) b h l = absurd (omega arith)
colon (suc (suc k)) (suc zero) b h l = refl
colon (suc (suc k)) (suc (suc j)) b h l = absurd (omega arith)

after-colons : (k j : ℕ) (b : Str) → k ≤ 2 → k ≤ j → get_or b (j - k) 0 ≡ get_or (take k colons ++ b) j 0
after-colons k j b h l =
    let n : length (take k colons) ≡ k = length-take-le k colons h in
    let e : length (take k colons) + (j - k) ≡ j = omega arith in
    sym (subst (λ (m : ℕ). get_or (take k colons ++ b) m 0 ≡ get_or b (j - k) 0) e (get_or-append-add (take k colons) b (j - k) 0))

module _ (f : Str) (k : ℕ) (b : Str) (i : ℕ) where
  pub byte-colon : k ≤ 2 → length f ≤ i → i - length f < k → 58 ≡ get_or (composed f k b) i 0
  byte-colon h l m = colon k (i - length f) b h m ∙ sym (split f k b i l)

  pub byte-back : (r : ℕ) → k ≤ 2 → length f ≤ i → k ≤ i - length f → r ≡ get_or b (i - length f - k) 0 → r ≡ get_or (composed f k b) i 0
  byte-back r h l m e = e ∙ after-colons k (i - length f) b h m ∙ sym (split f k b i l)

pub ruleset byte_laws = (byte-front, byte-colon, byte-back)

pub composed-length : (f : Str) (k : ℕ) (b : Str) → Parts f k b → length f + k + length b ≡ length (composed f k b)
unfolding composed
composed-length f k b h =
    let n : length (take k colons) ≡ k = length-take-le k colons h.few in
    sym (simp length-append (omega arith))

-- order of names in parts -------------------------------------------------------------------------------------------------

pub front_long : (f : Str) (k : ℕ) (b : Str) (i : ℕ) → i ≤ length f → i ≤ length (composed f k b)
unfolding composed
front_long f k b i h = rw length-append (omega arith)

-- what the fronts agree in, the names do
pub composed-skip : (f : Str) (k : ℕ) (b g : Str) (l : ℕ) (d : Str) (i : ℕ) → Skipped f g i
    → before (composed f k b) (composed g l d) ≡ before (drop i (composed f k b)) (drop i (composed g l d))
composed-skip f k b g l d i s =
    before-skip (composed f k b) (composed g l d) i
    (record {
      agree = λ j h. let p = s.in-first in let q = s.in-second in sym (byte-front f k b j (omega arith)) ∙ s.agree j h ∙ byte-front g l d j (omega arith);
      in-first = front_long f k b i s.in-first;
      in-second = front_long g l d i s.in-second;
    })

-- two names compared from an index on
module _ (x y : Str) (n m i : ℕ) (p : n ≡ length x) (q : m ≡ length y) where
  pub turn-longer : i < n → m ≤ i → before (drop i x) (drop i y) ≡ false
  turn-longer h k = before-longer x y i (omega arith) (omega arith)

  pub turn_below : (u v : ℕ) → i < n → i < m → u ≡ get_or x i 0 → v ≡ get_or y i 0 → u < v → before (drop i x) (drop i y) ≡ true
  turn_below u v h k a b c = before-below x y i (omega arith) (omega arith) (omega arith)

  pub turn-above : (u v : ℕ) → i < n → i < m → u ≡ get_or x i 0 → v ≡ get_or y i 0 → v < u → before (drop i x) (drop i y) ≡ false
  turn-above u v h k a b c = before_above x y i (omega arith) (omega arith) (omega arith)

  pub turn-next : (u v : ℕ) → i < n → i < m → u ≡ get_or x i 0 → v ≡ get_or y i 0 → u ≡ v → before (drop i x) (drop i y) ≡ before (drop (i + 1) x) (drop (i + 1) y)
  turn-next u v h k a b e = before-next x y i (omega arith) (omega arith) (omega arith) (omega arith)

  pub turn-shorter : n ≤ i → i < m → before (drop i x) (drop i y) ≡ true
  turn-shorter h k = before-shorter x y i (omega arith) (omega arith)

  pub turn_end : n ≤ i → m ≤ i → before (drop i x) (drop i y) ≡ false
  turn_end h k = before-end x y i (omega arith) (omega arith)

  pub turn-other : (u v : ℕ) → i < n → i < m → u ≡ get_or x i 0 → v ≡ get_or y i 0 → (u ≡ v → ⊥) → before (drop i x) (drop i y) ≡ ltb u v
  turn-other u v h k a b d = go (ltb u v) refl
    where
      go : (t : Bool) → ltb u v ≡ t → before (drop i x) (drop i y) ≡ t
      go true e = turn_below u v h k a b (ltb-true u v e)
      go false e = let w = ltb-false u v e in turn-above u v h k a b (omega arith)

  pub turn-done : n ≤ i → i ≤ n → before (drop i x) (drop i y) ≡ ltb n m
  turn-done h k = go (ltb n m) refl
    where
      go : (t : Bool) → ltb n m ≡ t → before (drop i x) (drop i y) ≡ t
      go true e = let w = ltb-true n m e in turn-shorter h (omega arith)
      go false e = let w = ltb-false n m e in turn_end h (omega arith)

-- equal fronts leave it to the rest
same-front : (f x y : Str) → before (f ++ x) (f ++ y) ≡ before x y
unfolding before
same-front [] x y = refl
same-front (a ∷ f) x y = rw (le-ltb a a (omega arith), eq-eqb a a refl) (same-front f x y)

-- different fronts of one length decide
other-front : (f g x y : Str) → length f ≡ length g → eqs f g ≡ false → before (f ++ x) (g ++ y) ≡ before f g
unfolding before eqs
other-front [] [] x y e h = absurd (false≢true (sym h))
other-front [] (b ∷ g) x y e h = absurd (omega arith)
other-front (a ∷ f) [] x y e h = absurd (omega arith)
other-front (a ∷ f) (b ∷ g) x y e h = go (eqb a b) h (other-front f g x y (omega arith))
  where
    go : (t : Bool) → (t && eqs f g) ≡ false → (eqs f g ≡ false → before (f ++ x) (g ++ y) ≡ before f g)
        → (ltb a b || (t && before (f ++ x) (g ++ y))) ≡ (ltb a b || (t && before f g))
    go true k ih = ap (λ (z : Bool). ltb a b || z) (ih k)
    go false k ih = refl

module _ (f : Str) (k : ℕ) (b g : Str) (l : ℕ) (d : Str) where
  pub parts-other : (t r : Bool) → length f ≡ length g → t ≡ eqs f g → t ≡ false → r ≡ before f g → r ≡ before (composed f k b) (composed g l d)
  unfolding composed
  parts-other t r e h z w = w ∙ sym (other-front f g (take k colons ++ b) (take l colons ++ d) e (sym h ∙ z))

  pub parts_same : (t r : Bool) → t ≡ eqs f g → t ≡ true → k ≡ l → r ≡ before b d → r ≡ before (composed f k b) (composed g l d)
  unfolding composed
  parts_same t r h z e w = w ∙ sym (rw (eqs→eq f g (sym h ∙ z), e) (same-front g (take l colons ++ b) (take l colons ++ d) ∙ same-front (take l colons) b d))

pub ruleset parts_laws = (parts-other, parts_same)

-- names of types ----------------------------------------------------------------------------------------------------------

pub colons-none : (h i : ℕ) → i ≡ family_part h → i ≡ 0 → 0 ≡ colons_of h
unfolding colons_of
colons-none h i e z = rw (← e, z)

pub colons-two : (h i : ℕ) → i ≡ family_part h → (i ≡ 0 → ⊥) → 2 ≡ colons_of h
unfolding colons_of
colons-two h i e z = rw (← e, ne_eqb i 0 z)

module _ (s p : Str) (h : ℕ) where
  pub front-plain : (x : Str) (i at : ℕ) → i ≡ family_part h → i ≡ 0 → at ≡ place_part h → x ≡ name_at s p at → x ≡ front_of s p h
  unfolding front_of
  front-plain x i at e z f g = g ∙ rw (f, ← e, z)

  pub front-family : (x : Str) (i : ℕ) → i ≡ family_part h → (i ≡ 0 → ⊥) → x ≡ name_at s p (i - 1) → x ≡ front_of s p h
  unfolding front_of
  front-family x i e z g = g ∙ rw (← e, ne_eqb i 0 z)

  pub back_none : (i : ℕ) → i ≡ family_part h → i ≡ 0 → [] ≡ back_of s p h
  unfolding back_of
  back_none i e z = rw (← e, z)

  pub back-own : (x : Str) (i at : ℕ) → i ≡ family_part h → (i ≡ 0 → ⊥) → at ≡ place_part h → x ≡ name_at s p at → x ≡ back_of s p h
  unfolding back_of
  back-own x i at e z f g = g ∙ rw (f, ← e, ne_eqb i 0 z)

  -- a type's name is its parts
  pub type-parts : type_name s p h ≡ composed (front_of s p h) (colons_of h) (back_of s p h)
  unfolding type_name variant_name composed front_of colons_of back_of
  type-parts = go (eqb (family_part h) 0)
    where
      go : (t : Bool)
          → cond t (name_at s p (place_part h)) (variant_name (name_at s p (family_part h - 1)) (name_at s p (place_part h)))
          ≡ cond t (name_at s p (place_part h)) (name_at s p (family_part h - 1)) ++ (take (cond t 0 2) colons ++ cond t [] (name_at s p (place_part h)))
      go true = sym (append-nil (name_at s p (place_part h)))
      go false = refl

  module _ (f b : Str) (k : ℕ) (u : f ≡ front_of s p h) (v : k ≡ colons_of h) (w : b ≡ back_of s p h) where
    pub parts-type : composed f k b ≡ type_name s p h
    parts-type = rw (u, v, w) (sym type-parts)

    pub under-is : (y : Str) (r : Bool) → r ≡ before (composed f k b) y → r ≡ before (type_name s p h) y
    under-is y r e = e ∙ ap (λ (x : Str). before x y) parts-type

    pub over-is : (x : Str) (r : Bool) → r ≡ before x (composed f k b) → r ≡ before x (type_name s p h)
    over-is x r e = e ∙ ap (before x) parts-type

  -- its parts compared one by one
  module _ (f b : Str) (k n : ℕ) (u : n ≡ colons_of h) where
    pub has-colons : (n ≡ k → ⊥) → false ≡ has_parts s p h f k b
    unfolding has_parts
    has-colons z = rw (ne_eqb (colons_of h) k (λ q. z (u ∙ q)))

    module _ (e : n ≡ k) (x : Str) (c : Bool) (v : x ≡ back_of s p h) (w : c ≡ eqs x b) where
      pub has-back : c ≡ false → false ≡ has_parts s p h f k b
      unfolding has_parts
      has-back z = rw (eq-eqb (colons_of h) k (sym u ∙ e), ← v, ← w, z)

      pub has_all : (y : Str) (r : Bool) → c ≡ true → y ≡ front_of s p h → r ≡ eqs y f → r ≡ has_parts s p h f k b
      unfolding has_parts
      has_all y r z a g = g ∙ rw (eq-eqb (colons_of h) k (sym u ∙ e), ← v, ← w, z, ← a)

  pub named-so : (f b : Str) (k : ℕ) → has_parts s p h f k b ≡ true → type_name s p h ≡ composed f k b
  unfolding has_parts
  named-so f b k e =
      let x = both (eqb (colons_of h) k) (eqs (back_of s p h) b && eqs (front_of s p h) f) e in
      let y = both (eqs (back_of s p h) b) (eqs (front_of s p h) f) x.1 in
      sym (parts-type f b k (sym (eqs→eq (front_of s p h) f y.1)) (sym (eqb-true (colons_of h) k x.0)) (sym (eqs→eq (back_of s p h) b y.0)))

pub ruleset part-laws = (front-plain, front-family, colons-none, colons-two, back_none, back-own)

-- in one family the own names decide
pub own-names : (s p : Str) (g h i j a b : ℕ) (x y : Str) (r : Bool) → i ≡ family_part g → j ≡ family_part h → i ≡ j
    → a ≡ place_part g → b ≡ place_part h → x ≡ name_at s p a → y ≡ name_at s p b → r ≡ before x y → r ≡ before (type_name s p g) (type_name s p h)
unfolding type_name variant_name
own-names s p g h i j a b x y r e f o q t u v w =
    let m : family_part g ≡ family_part h = sym e ∙ o ∙ f in
    w ∙ rw (u, v, q, t, m) (go (eqb (family_part h) 0))
  where
    c : Str
    c = name_at s p (place_part g)

    d : Str
    d = name_at s p (place_part h)

    z : Str
    z = name_at s p (family_part h - 1)

    go : (t : Bool) → before c d ≡ before (cond t c (variant_name z c)) (cond t d (variant_name z d))
    go true = refl
    go false = sym (same-front z (58 ∷ 58 ∷ c) (58 ∷ 58 ∷ d) ∙ same-front colons c d)

-- names put into a buffer -------------------------------------------------------------------------------------------------

module _ (p : Str) (t : TypeName) {out after : Str} {at r : ℕ} where
  pub put_front : Puts out at (text_of p t.front) after r → t.back ≡ None → Puts out at (name_of p t) after r
  put_front a e = rw e a

  pub put_both : (d : Text) {mid : Str} {q : ℕ} → Puts out at (text_of p t.front) mid q → t.back ≡ Some d → Puts mid q (58 ∷ 58 ∷ text_of p d) after r
      → Puts out at (name_of p t) after r
  unfolding variant_name
  put_both d a e b = rw e (puts_then a b)

-- how long they are
module _ (p : Str) (t : TypeName) (x : Str) (a : x ≡ text_of p t.front) where
  pub name-front-long : t.back ≡ None → length x ≡ length (name_of p t)
  name-front-long e = rw (e, a)

  pub name-both-long : (d : Text) (y : Str) → t.back ≡ Some d → y ≡ text_of p d → length x + 2 + length y ≡ length (name_of p t)
  unfolding variant_name
  name-both-long d y e b = rw (e, a, b) (simp length-append (omega arith))
