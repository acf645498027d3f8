-- Counting over tables. Assumes nothing.
use Rattle.std.specs.Prelude.{Option, Some, None}
use mathlib.Core.Path.{◌≡◌, sym, ap, ap₂, subst, ◌∙◌}
use mathlib.Core.List.{List, [], ◌∷◌, map}
use mathlib.Core.Bool.{Bool, true, false, not, cond}
use Prim.Native.Nat.{ℕ, suc, ◌+◌, ◌≤◌, ◌<◌}
use native.Mathlib.Numerals.{add-one}
use native.Mathlib.Omega.{arith}
use lib.ListN.{length, get_or, drop, replicate, drop_of_length-le}
use lib.Seq.{drop-cons}
use Rattle.record.specs.Base.{Str, is_some, filter_b}
use Rattle.record.specs.Scalars.{Scalar}
use Rattle.record.specs.Index.{IndexRoom, Indexed}
use Rattle.record.specs.Reading.{Rec, rec, schema_of}
use Rattle.layout.specs.Layout.{TypeLayout, type_in}
use Rattle.layout.specs.Handles.{type_name, layout_of}
use Rattle.layout.specs.Table.{TypesTable, FoundType}
use Rattle.layout.specs.Tables.{Tables}
use Rattle.definition.specs.Fields.{eq_places, same_as, changed}
use Rattle.drafts.specs.Count.{gone, count_changed}
use Rattle.drafts.specs.Counted.{layouts_of, Legible, Rooms, IsThere, Gone}
use Rattle.drafts.proofs.Arrays.{zeros-long}

-- look-ups ---------------------------------------------------------------------------------------------------------------------------------

module _ (b q : Str) (u : List ℕ) (n : Str) (f : Option ℕ) (l : FoundType b q u n f) where
  pub there-none : f ≡ None → IsThere b q u n false
  unfolding is_some
  there-none h = record { answer = λ t w. rw (l.layout t w, h) }

  pub there-some : (i : ℕ) → f ≡ Some i → IsThere b q u n true
  unfolding is_some
  there-some i h = record { answer = λ t w. rw (l.layout t w, h) }

module _ (s p b q : Str) (w : List Scalar) (t z u y : List ℕ) (h : ℕ) (a : Tables (rec b q w) u y) (f : Option ℕ) (l : FoundType b q u (type_name s p h) f) where
  pub same_none : f ≡ None → false ≡ same_as (type_in (type_name s p h) (layouts_of (rec b q w))) (layout_of (rec s p w) h)
  unfolding same_as
  same_none g = rw (l.layout a.types w, g)

  pub same_some : (i : ℕ) (r : Bool) → f ≡ Some i → r ≡ eq_places (layout_of (rec b q w) (get_or u i 0)).fields (layout_of (rec s p w) h).fields
      → r ≡ same_as (type_in (type_name s p h) (layouts_of (rec b q w))) (layout_of (rec s p w) h)
  unfolding same_as
  same_some i r g e = rw (l.layout a.types w, g) e

-- counting in a loop -------------------------------------------------------------------------------------------------------------------------

-- of a list of handles, so many have passed below an index
pub record CountedTo (f : ℕ → TypeLayout) (q : TypeLayout → Bool) (t : List ℕ) (n i : ℕ) : Type 0 where
  pub sum : n + length (filter_b q (map f (drop i t))) ≡ length (filter_b q (map f t))
  pub few : n ≤ i
  pub within : i ≤ length t

module _ (f : ℕ → TypeLayout) (q : TypeLayout → Bool) (t : List ℕ) where
  pub count-start : CountedTo f q t 0 0
  count-start = record { sum = omega arith; few = omega arith; within = omega arith }

  module _ (n i : ℕ) (c : CountedTo f q t n i) where
    pub count-end : length t ≤ i → n ≡ length (filter_b q (map f t))
    unfolding filter_b
    count-end h =
        let e : length (filter_b q (map f (drop i t))) ≡ 0 = rw (drop_of_length-le t {i = i} h) in
        let s = c.sum in
        omega arith

    pub count-few : n ≤ length t
    count-few = let a = c.few in let b = c.within in omega arith

    step : i < length t → (b : Bool) → q (f (get_or t i 0)) ≡ b → length (filter_b q (map f (drop i t))) ≡ cond b (suc (length (filter_b q (map f (drop (i + 1) t))))) (length (filter_b q (map f (drop (i + 1) t))))
    unfolding filter_b
    step h true e = rw (drop-cons t i 0, e, add-one)
    step h false e = rw (drop-cons t i 0, e, add-one)

    pub count-on : i < length t → q (f (get_or t i 0)) ≡ true → CountedTo f q t (n + 1) (i + 1)
    count-on h e = let a = step h true e in let s = c.sum in let k = c.few in record { sum = omega arith; few = omega arith; within = omega arith }

    pub count-over : i < length t → q (f (get_or t i 0)) ≡ false → CountedTo f q t n (i + 1)
    count-over h e = let a = step h false e in let s = c.sum in let k = c.few in record { sum = omega arith; few = omega arith; within = omega arith }

-- the changed ones -----------------------------------------------------------------------------------------------------------------------------

abbrev pub is_changed : Rec → TypeLayout → Bool
is_changed rel x = not (same_as (type_in x.name (layouts_of rel)) x)

abbrev pub ChangedTo : Rec → Rec → List ℕ → ℕ → ℕ → Type 0
ChangedTo cur rel t n i = CountedTo (layout_of cur) (is_changed rel) t n i

module _ (cur rel : Rec) (t z : List ℕ) (n i : ℕ) (c : ChangedTo cur rel t n i) where
  module _ (h : ℕ) (g : h ≡ get_or t i 0) (r : Bool) (e : r ≡ same_as (type_in (type_name cur.stream cur.pool h) (layouts_of rel)) (layout_of cur h)) (k : i < length t) where
    pub changed-over : r ≡ true → ChangedTo cur rel t n (i + 1)
    unfolding layout_of
    changed-over x = count-over (layout_of cur) (is_changed rel) t n i c k (subst (λ (j : ℕ). is_changed rel (layout_of cur j) ≡ false) g (ap not (sym e ∙ x)))

    pub changed-on : r ≡ false → ChangedTo cur rel t (n + 1) (i + 1)
    unfolding layout_of
    changed-on x = count-on (layout_of cur) (is_changed rel) t n i c k (subst (λ (j : ℕ). is_changed rel (layout_of cur j) ≡ true) g (ap not (sym e ∙ x)))

  pub changed-end : Tables cur t z → length t ≤ i → n ≡ length (changed (layouts_of cur) (layouts_of rel))
  unfolding changed
  changed-end a h = count-end (layout_of cur) (is_changed rel) t n i c h ∙ ap (λ (l : List TypeLayout). length (filter_b (is_changed rel) l)) (a.types.layouts cur.scalars)

pub changed-start : (cur rel : Rec) (t : List ℕ) → ChangedTo cur rel t 0 0
changed-start cur rel t = count-start (layout_of cur) (is_changed rel) t

-- those that are gone ----------------------------------------------------------------------------------------------------------------------------

abbrev is_gone : Rec → TypeLayout → Bool
is_gone cur x = not (is_some (type_in x.name (layouts_of cur)))

pub record GoneTo (b q : Str) (u : List ℕ) (s p : Str) (t : List ℕ) (n i : ℕ) : Type 0 where
  pub few : n ≤ i
  pub within : i ≤ length u
  pub count : TypesTable s p t → (w : List Scalar) → CountedTo (layout_of (rec b q w)) (is_gone (rec s p w)) u n i

pub gone-start : (b q : Str) (u : List ℕ) (s p : Str) (t : List ℕ) → GoneTo b q u s p t 0 0
gone-start b q u s p t = record { few = omega arith; within = omega arith; count = λ a w. count-start (layout_of (rec b q w)) (is_gone (rec s p w)) u }

module _ (b q : Str) (u : List ℕ) (s p : Str) (t : List ℕ) (n i : ℕ) (c : GoneTo b q u s p t n i) where
  module _ (h : ℕ) (g : h ≡ get_or u i 0) (r : Bool) (e : IsThere s p t (type_name b q h) r) (k : i < length u) where
    pub gone-over : r ≡ true → GoneTo b q u s p t n (i + 1)
    unfolding layout_of
    gone-over x =
        let f = c.few in
        record {
          few = omega arith;
          within = omega arith;
          count = λ a w. count-over (layout_of (rec b q w)) (is_gone (rec s p w)) u n i (c.count a w) k (subst (λ (j : ℕ). is_gone (rec s p w) (layout_of (rec b q w) j) ≡ false) g (ap not (sym (e.answer a w) ∙ x)));
        }

    pub gone-on : r ≡ false → GoneTo b q u s p t (n + 1) (i + 1)
    unfolding layout_of
    gone-on x =
        let f = c.few in
        record {
          few = omega arith;
          within = omega arith;
          count = λ a w. count-on (layout_of (rec b q w)) (is_gone (rec s p w)) u n i (c.count a w) k (subst (λ (j : ℕ). is_gone (rec s p w) (layout_of (rec b q w) j) ≡ true) g (ap not (sym (e.answer a w) ∙ x)));
        }

  pub gone-end : length u ≤ i → Gone b q u s p t n
  unfolding gone
  gone-end h =
      let f = c.few in
      let k = c.within in
      record {
        answer = λ v a w. count-end (layout_of (rec b q w)) (is_gone (rec s p w)) u n i (c.count a w) h ∙ ap (λ (l : List TypeLayout). length (filter_b (is_gone (rec s p w)) l)) (v.layouts w);
        few = omega arith;
      }

pub counted-both : (s p b q : Str) (w : List Scalar) (t z u y : List ℕ) (n m : ℕ) → Tables (rec s p w) t z → Tables (rec b q w) u y
    → n ≡ length (changed (layouts_of (rec s p w)) (layouts_of (rec b q w))) → Gone b q u s p t m → n + m ≡ count_changed (schema_of (rec s p w)) (schema_of (rec b q w))
unfolding count_changed
counted-both s p b q w t z u y n m a c e g = ap₂ (λ (i j : ℕ). i + j) e (g.answer c.types a.types w)

-- tables -------------------------------------------------------------------------------------------------------------------------------------------

pub indexed-one : (s p : Str) (x y : List ℕ) → length s ≤ 32768 → IndexRoom s x → (length s ≤ 32768 → IndexRoom s x → Indexed s p y) → Indexed s p y
indexed-one s p x y h r f = f h r

-- tables as they are made are long enough for every record
pub rooms-made : (r : Rec) → Legible r → Rooms r (replicate 8192 0) (replicate 993 0)
rooms-made r l = let h = l.short in let b = zeros-long 8192 in let d = zeros-long 993 in record { legible = l; types-room = omega arith; sizes-room = omega arith }
