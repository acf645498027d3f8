-- The cases of the pass over the fields. s and p are the current stream and pool, b and q the released ones. Assumes nothing.
use Prim.Native.Nat.{ℕ, suc, ◌+◌, ◌≤◌, ◌<◌}
use mathlib.Core.Path.{◌≡◌, refl, sym, ap, subst, ◌∙◌}
use mathlib.Core.List.{List, [], map}
use mathlib.Core.Bool.{Bool, true, false}
use mathlib.Core.Logic.{◌⊎◌, inl, inr}
use native.Mathlib.Omega.{arith}
use lib.Dec.{eqb}
use lib.ListN.{length, get_or, set, drop, drop_of_length-le}
use lib.Seq.{get_or-set_same, get_or-set_other}
use borrow.Author.Tests.{eq-eqb, ne_eqb, eqb-true, eqb-false}
use Rattle.std.specs.Prelude.{Result, Ok, Err, ⊤, replicate, take, ◌++◌, Option, Some, None}
use Rattle.std.proofs.lemmas.List.{length-take-le, length-replicate, get_or-replicate, get_or_append_left}
use Rattle.record.specs.Base.{Str, eqs}
use Rattle.record.specs.Stretch.{text_of}
use Rattle.record.specs.Scalars.{Scalar}
use Rattle.record.specs.Shapes.{FieldLayout}
use Rattle.record.specs.Describe.{described_as}
use Rattle.record.specs.Reading.{Rec, rec}
use Rattle.record.specs.Read.{Exact}
use Rattle.layout.specs.Layout.{TypeLayout, type_in}
use Rattle.layout.specs.Handles.{type_name, layout_of}
use Rattle.layout.specs.Names.{name_of, stretches_of}
use Rattle.layout.specs.Table.{Typed, TypesTable, found_end, FoundType}
use Rattle.layout.specs.FieldSizes.{SizesTable}
use Rattle.layout.specs.Spots.{spot_of, places_from, SoundCursor, SpotsFrom, TypeSpots}
use Rattle.layout.specs.Tables.{Tables}
use Rattle.layout.specs.declared.names.TypeName.{TypeName}
use Rattle.layout.specs.declared.spots.Spot.{Spot}
use Rattle.layout.specs.declared.spots.SpotCursor.{SpotCursor}
use Rattle.layout.proofs.NameLaws.{stretches-read}
use Rattle.layout.proofs.TableLaws.{own-type, no-type, one_name, found_name}
use Rattle.layout.proofs.SpotLaws.{spots-over-now, spots-now, spots-sound}
use Rattle.layout.proofs.LineLaws.{drop-next}
use Rattle.definition.specs.Verdicts.{moved, resized}
use Rattle.definition.specs.Pass.{◌then◌, ensure, on_found}
use Rattle.definition.specs.Fields.{place_in, check_kept, check_place, check_places, check_type, check_fields, eq_places, same_as}
use Rattle.definition.proofs.Same.{eq_places→eq}
use Rattle.compare.proofs.LayoutLaws.{fields-same}
use Rattle.compare.specs.Layouts.{types_of, spot_found}
use Rattle.compare.specs.Alike.{AlikePassed}
use Rattle.compare.specs.Kept.{PlacesKept}
use Rattle.compare.specs.Fields.{entry_of, Ones, TypeNoted}
use Rattle.compare.specs.CoverTable.{Changes}
use Rattle.verdicts.specs.Meaning.{violation, meaning}
use Rattle.verdicts.specs.declared.verdict.Verdict.{Verdict}
use Rattle.verdicts.specs.declared.verdict.Verdict.TheVariants.{TypeGone, FieldGone, Moved, Resized, Redescribed}
use Rattle.verdicts.proofs.PassLaws.{HandedOn}
use Rattle.verdicts.proofs.Each.{each-end, each_on, each-stop}

-- a field against the one of its name
module _ (p q : Str) (o : TypeName) (a x : Spot) where
  pub kept-moved : (x.offset ≡ a.offset → ⊥) → meaning p q (Err (Moved o a.name a.offset x.offset)) ≡ check_kept (name_of q o) (spot_of q a) (spot_of p x)
  unfolding meaning violation check_kept ensure ◌then◌ moved
  kept-moved h = rw (ne_eqb x.offset a.offset h)

  module _ (i : x.offset ≡ a.offset) where
    pub kept-resized : (x.size ≡ a.size → ⊥) → meaning p q (Err (Resized o a.name a.size x.size)) ≡ check_kept (name_of q o) (spot_of q a) (spot_of p x)
    unfolding meaning violation check_kept ensure ◌then◌ resized
    kept-resized h = rw (eq-eqb x.offset a.offset i, ne_eqb x.size a.size h)

    module _ (j : x.size ≡ a.size) (t : Bool) (d : t ≡ eqs (described_as p x.described) (described_as q a.described)) where
      pub kept_same : t ≡ true → meaning p q (Ok tt) ≡ check_kept (name_of q o) (spot_of q a) (spot_of p x)
      unfolding meaning check_kept ensure ◌then◌
      kept_same h = rw (eq-eqb x.offset a.offset i, eq-eqb x.size a.size j, ← d, h)

      pub kept-redescribed : t ≡ false → meaning p q (Err (Redescribed o a.name a.described x.described)) ≡ check_kept (name_of q o) (spot_of q a) (spot_of p x)
      unfolding meaning violation check_kept ensure ◌then◌
      kept-redescribed h = rw (eq-eqb x.offset a.offset i, eq-eqb x.size a.size j, ← d, h)

-- one field
module _ (s p q : Str) (w : List Scalar) (c : SpotCursor) (o : TypeName) (a : Spot) where
  abbrev is : List FieldLayout
  is = places_from (rec s p w) c

  pub place-padding : a.padding ≡ true → meaning p q (Ok tt) ≡ check_place (name_of q o) is (spot_of q a)
  unfolding meaning check_place ensure
  place-padding h = rw h

  module _ (n : a.padding ≡ false) (x : Str) (r : Option (Spot × SpotCursor)) (t : x ≡ text_of q a.name) (h : place_in x is ≡ spot_found p r) where
    named : place_in (text_of q a.name) is ≡ spot_found p r
    named = ap (λ (y : Str). place_in y is) (sym t) ∙ h

    pub place-gone : r ≡ None → meaning p q (Err (FieldGone o a.name)) ≡ check_place (name_of q o) is (spot_of q a)
    unfolding meaning violation check_place ensure on_found
    place-gone m = rw (n, named, m)

    pub place-there : (y : Spot) (k : SpotCursor) (v : Result ⊤ Verdict) → r ≡ Some (y, k) → meaning p q v ≡ check_kept (name_of q o) (spot_of q a) (spot_of p y)
        → meaning p q v ≡ check_place (name_of q o) is (spot_of q a)
    unfolding check_kept check_place ensure on_found
    place-there y k v m e = rw (n, named, m) e

-- the fields of a type: those so far stand as they were
pub record PlacesOn (r : Rec) (z : List ℕ) (n : Str) (is : List FieldLayout) (a c : SpotCursor) : Type 0 where
  pub sound : SoundCursor r z c
  pub same : check_places n is (places_from r a) ≡ check_places n is (places_from r c)

pub places-here : (r : Rec) (z : List ℕ) (n : Str) (is : List FieldLayout) (c : SpotCursor) → SoundCursor r z c → PlacesOn r z n is c c
places-here r z n is c d = record { sound = d; same = refl }

module _ (p b q : Str) (w : List Scalar) (z : List ℕ) (n : Str) (is : List FieldLayout) (a c : SpotCursor) (i : PlacesOn (rec b q w) z n is a c) (r : Option (Spot × SpotCursor)) (f : SpotsFrom (rec b q w) z c r) where
  pub places-end : r ≡ None → meaning p q (Ok tt) ≡ check_places n is (places_from (rec b q w) a)
  unfolding check_places
  places-end m = sym (i.same ∙ each-end _ _ p q (spots-over-now b q w z c r f i.sound m))

  module _ (x : Spot) (k : SpotCursor) (v : Result ⊤ Verdict) (m : r ≡ Some (x, k)) (h : meaning p q v ≡ check_place n is (spot_of q x)) where
    pub places-on : v ≡ Ok tt → PlacesOn (rec b q w) z n is a k
    unfolding check_places
    places-on g =
        record {
          sound = spots-sound b q w z c r f x k m i.sound;
          same = i.same ∙ each_on _ _ p q _ _ v (spots-now b q w z c r f x k m i.sound) h g;
        }

    pub places-stop : (u : Result ⊤ Verdict) → HandedOn v u → meaning p q u ≡ check_places n is (places_from (rec b q w) a)
    unfolding check_places
    places-stop u g = sym (i.same ∙ each-stop _ _ p q _ _ v (spots-now b q w z c r f x k m i.sound) h u g)

-- the cursor at the fields of a type is sound
pub cursor-sound : (s p : Str) (w : List Scalar) (z : List ℕ) (h : ℕ) (c : SpotCursor) → Typed s h → SizesTable (rec s p w) z → Exact (rec s p w) → TypeSpots s h c → SoundCursor (rec s p w) z c
cursor-sound s p w z h c y x e k = k.sound y p w z x e

-- entries of a table that are put

pub ones-start : (m : List ℕ) → Ones 0 m
ones-start m = record { one = λ j h. absurd (omega arith) }

module _ (i : ℕ) (m : List ℕ) (b : Ones i m) where
  pub ones-on : (n : ℕ) → i < n → n ≤ length m → Ones (i + 1) (set m i 1)
  ones-on n k l = record { one = λ j h. go j h (eqb j i) refl }
    where
      go : (j : ℕ) → j < i + 1 → (v : Bool) → eqb j i ≡ v → get_or (set m i 1) j 0 ≡ 1
      go j h true e = ap (λ (k : ℕ). get_or (set m i 1) k 0) (eqb-true j i e) ∙ get_or-set_same m i 1 0 (omega arith)
      go j h false e = let a : j ≡ i → ⊥ = eqb-false j i e in get_or-set_other m i j 1 0 a ∙ b.one j (omega arith)

  pub ones-end : (n : ℕ) → n ≤ i → Ones n m
  ones-end n h = record { one = λ j k. b.one j (omega arith) }

pub ones-filled : (n : ℕ) (m f : List ℕ) → n ≤ length m → f ≡ replicate (length (take n m)) 1 → Ones n (f ++ drop n m)
ones-filled n m f h e = record { one = λ j k. go j k }
  where
    whole : length (take n m) ≡ n
    whole = length-take-le n m h

    long : length f ≡ n
    long = ap length e ∙ length-replicate _ _ ∙ whole

    go : (j : ℕ) → j < n → get_or (f ++ drop n m) j 0 ≡ 1
    go j k = get_or_append_left f (drop n m) 0 j (rw long k) ∙ ap (λ (l : List ℕ). get_or l j 0) e ∙ get_or-replicate _ j 1 0 (rw whole k)

module _ (m : List ℕ) (i : ℕ) (t v : Bool) (e : t ≡ v) where
  pub noted-same : t ≡ true → set m i 0 ≡ set m i (entry_of v)
  noted-same h = ap (λ (x : Bool). set m i (entry_of x)) (sym h ∙ e)

  pub noted_other : t ≡ false → set m i 1 ≡ set m i (entry_of v)
  noted_other h = ap (λ (x : Bool). set m i (entry_of x)) (sym h ∙ e)

pub noted-bare : (s p b q : Str) (w : List Scalar) (c c₀ : SpotCursor) (t : Bool) (m : List ℕ) (i : ℕ)
    → (t ≡ true → (p₀ q₀ : Str) (w₀ : List Scalar) → eq_places (places_from (rec s p₀ w₀) c) (places_from (rec b q₀ w₀) c₀) ≡ true) → t ≡ true
    → set m i 0 ≡ set m i (entry_of (eq_places (places_from (rec s p w) c) (places_from (rec b q w) c₀)))
noted-bare s p b q w c c₀ t m i f e = ap (λ (x : Bool). set m i (entry_of x)) (sym (f e p q w))

pub ruleset note-laws = (noted-bare, noted-same, noted_other)

-- fields that are passed over

module _ (s p b q : Str) (w : List Scalar) (z y : List ℕ) (c c₀ d d₀ : SpotCursor) (f : SoundCursor (rec s p w) z c) (f₀ : SoundCursor (rec b q w) y c₀) where
  pub rest-bare : (n : Str) (t : Bool) → PlacesKept s p z c b q y c₀ d₀ → (t ≡ true → (q₀ : Str) (w₀ : List Scalar) → places_from (rec b q₀ w₀) d₀ ≡ []) → t ≡ true
      → meaning p q (Ok tt) ≡ check_places n (places_from (rec s p w) c) (places_from (rec b q w) c₀)
  unfolding check_places
  rest-bare n t k g e = sym (k.same w f f₀ n ∙ each-end _ _ p q (g e q w))

  pub rest-noted : (i : ℕ) (m n : List ℕ) → AlikePassed s p z b q y c c₀ d d₀ → n ≡ set m i (entry_of (eq_places (places_from (rec s p w) d) (places_from (rec b q w) d₀)))
      → n ≡ set m i (entry_of (eq_places (places_from (rec s p w) c) (places_from (rec b q w) c₀)))
  rest-noted i m n o e = e ∙ ap (λ (x : Bool). set m i (entry_of x)) (sym (o.same w f f₀))

pub layout-noted : (s p b q : Str) (w : List Scalar) (h h₀ : ℕ) (c c₀ : SpotCursor) (i : ℕ) (m n : List ℕ) → Typed s h → Typed b h₀ → TypeSpots s h c → TypeSpots b h₀ c₀
    → n ≡ set m i (entry_of (eq_places (places_from (rec s p w) c) (places_from (rec b q w) c₀))) → n ≡ set m i (entry_of (eq_places (layout_of (rec s p w) h).fields (layout_of (rec b q w) h₀).fields))
layout-noted s p b q w h h₀ c c₀ i m n y y₀ k k₀ e = e ∙ ap (λ (x : Bool). set m i (entry_of x)) (fields-same s p b q w h h₀ c c₀ _ y y₀ k k₀ refl)

-- a type without fields
pub bare-passed : (s p b q : Str) (w : List Scalar) (h h₀ : ℕ) (c₀ : SpotCursor) (t : Bool) → Typed b h₀ → TypeSpots b h₀ c₀ → (t ≡ true → (p₀ : Str) (w₀ : List Scalar) → places_from (rec b p₀ w₀) c₀ ≡ [])
    → t ≡ true → meaning p q (Ok tt) ≡ check_places (type_name b q h₀) (layout_of (rec s p w) h).fields (layout_of (rec b q w) h₀).fields
unfolding check_places
bare-passed s p b q w h h₀ c₀ t y k f e = sym (each-end _ _ p q (sym (k.list y q w) ∙ f e q w))

-- all fields of a type
pub layout-fields : (s p b q : Str) (w : List Scalar) (h h₀ : ℕ) (c c₀ : SpotCursor) (n : TypeName) (v : Result ⊤ Verdict) → Typed s h → Typed b h₀ → TypeSpots s h c → TypeSpots b h₀ c₀
    → n ≡ stretches_of b h₀ → meaning p q v ≡ check_places (name_of q n) (places_from (rec s p w) c) (places_from (rec b q w) c₀)
    → meaning p q v ≡ check_places (type_name b q h₀) (layout_of (rec s p w) h).fields (layout_of (rec b q w) h₀).fields
layout-fields s p b q w h h₀ c c₀ n v y y₀ k k₀ e g = rw (← k.list y p w, ← k₀.list y₀ q w, ← stretches-read b q h₀, ← e) g

-- a type that is found is in the table
pub found_inside : (s p n : Str) (t : List ℕ) (r : Option ℕ) (i : ℕ) → FoundType s p t n r → r ≡ Some i → i < length t
found_inside s p n t r i f m = let h : suc i ≤ length t = subst (λ (y : Option ℕ). found_end y ≤ length t) m f.inside in omega arith

pub found-room : (s p n : Str) (t m : List ℕ) (r : Option ℕ) (i : ℕ) → FoundType s p t n r → r ≡ Some i → length t ≤ length m → i < length m
found-room s p n t m r i f e l = let h = found_inside s p n t r i f e in omega arith

pub table-typed : (s p : Str) (t : List ℕ) (i : ℕ) → TypesTable s p t → i < length t → Typed s (get_or t i 0)
table-typed s p t i y h = y.typed i h

pub found-typed : (s p n : Str) (t : List ℕ) (r : Option ℕ) (i : ℕ) → TypesTable s p t → FoundType s p t n r → r ≡ Some i → Typed s (get_or t i 0)
found-typed s p n t r i y f m = y.typed i (found_inside s p n t r i f m)

-- one type
module _ (s p b q : Str) (w : List Scalar) (h : ℕ) (t : List ℕ) (r : Option ℕ) (y : TypesTable s p t) (f : FoundType s p t (type_name b q h) r) where
  abbrev R : Rec
  R = rec s p w

  abbrev R₀ : Rec
  R₀ = rec b q w

  pub type-gone : (n : TypeName) → n ≡ stretches_of b h → r ≡ None → meaning p q (Err (TypeGone n)) ≡ check_type (types_of R) (layout_of R₀ h)
  unfolding meaning violation check_type on_found layout_of
  type-gone n e m = rw (f.layout y w, m, e, stretches-read b q h)

  laid-name : (layout_of R₀ h).name ≡ type_name b q h
  unfolding layout_of
  laid-name = refl

  module _ (i : ℕ) (m : r ≡ Some i) where
    pub type-there : (v : Result ⊤ Verdict) → meaning p q v ≡ check_places (type_name b q h) (layout_of R (get_or t i 0)).fields (layout_of R₀ h).fields → meaning p q v ≡ check_type (types_of R) (layout_of R₀ h)
    unfolding check_type on_found
    type-there v g = rw (laid-name, f.layout y w, m) g

-- the type has its entry
pub type-noted : (s p b q : Str) (w : List Scalar) (t : List ℕ) (h : ℕ) (r : Option ℕ) (i : ℕ) (m n : List ℕ) → TypesTable s p t → FoundType s p t (type_name b q h) r → r ≡ Some i
    → n ≡ set m i (entry_of (eq_places (layout_of (rec s p w) (get_or t i 0)).fields (layout_of (rec b q w) h).fields)) → TypeNoted (rec s p w) (rec b q w) t h m n
type-noted s p b q w t h r i m n y f e g = record { index = i; inside = found_inside s p (type_name b q h) t r i f e; named = found_name s p t y (type_name b q h) r i f e; entry = g }

-- whether a type is as the released one of its name
unfoldable same_of : Rec → Rec → List ℕ → ℕ → Bool
same_of r r₀ t j = same_as (type_in (type_name r.stream r.pool (get_or t j 0)) (types_of r₀)) (layout_of r (get_or t j 0))

-- each type has its entry, or none of the first k released types has its name
pub record Visited (r r₀ : Rec) (t t₀ m : List ℕ) (k : ℕ) : Type 0 where
  state : (j : ℕ) → j < length t → (eqb (get_or m j 0) 0 ≡ same_of r r₀ t j)
      ⊎ ((get_or m j 0 ≡ 1) × ((i : ℕ) → i < k → type_name r₀.stream r₀.pool (get_or t₀ i 0) ≡ type_name r.stream r.pool (get_or t j 0) → ⊥))

pub same-either : (a b : List FieldLayout) → eq_places a b ≡ eq_places b a
same-either a b = go (eq_places a b) (eq_places b a) refl refl
  where
    turned : (x y : List FieldLayout) → eq_places x y ≡ true → eq_places y x ≡ true
    turned x y h =
        let e : x ≡ y = eq_places→eq x y h in
        subst (λ (v : List FieldLayout). eq_places v x ≡ true) e (subst (λ (v : List FieldLayout). eq_places x v ≡ true) (sym e) h)

    go : (u v : Bool) → eq_places a b ≡ u → eq_places b a ≡ v → u ≡ v
    go true true e f = refl
    go true false e f = sym (sym f ∙ turned a b e)
    go false true e f = sym e ∙ turned b a f
    go false false e f = refl

pub entry_zero : (v : Bool) → eqb (entry_of v) 0 ≡ v
entry_zero true = refl
entry_zero false = refl

module _ (s p b q : Str) (w : List Scalar) (t t₀ m : List ℕ) where
  pub visited-start : Ones (length t) m → Visited (rec s p w) (rec b q w) t t₀ m 0
  visited-start o = record { state = λ j h. inr (o.one j h, λ i l. absurd (omega arith)) }

  module _ (y₀ : TypesTable b q t₀) (k : ℕ) (v : Visited (rec s p w) (rec b q w) t t₀ m k) where
    pub visited-end : length t₀ ≤ k → Changes (rec s p w) (rec b q w) t m
    unfolding same_as same_of
    visited-end h = record { same = λ j l. go j (v.state j l) }
      where
        go : (j : ℕ) → (eqb (get_or m j 0) 0 ≡ same_of (rec s p w) (rec b q w) t j)
            ⊎ ((get_or m j 0 ≡ 1) × ((i : ℕ) → i < k → type_name b q (get_or t₀ i 0) ≡ type_name s p (get_or t j 0) → ⊥))
            → eqb (get_or m j 0) 0 ≡ same_of (rec s p w) (rec b q w) t j
        go j (inl e) = e
        go j (inr a) = rw (a.0, no-type b q t₀ y₀ w (type_name s p (get_or t j 0)) (λ i l. a.1 i (omega arith)))

    pub visited-on : (n : List ℕ) (u : Result ⊤ Verdict) → TypesTable s p t → k < length t₀ → length t ≤ length m → u ≡ Ok tt → (u ≡ Ok tt → TypeNoted (rec s p w) (rec b q w) t (get_or t₀ k 0) m n) → Visited (rec s p w) (rec b q w) t t₀ n (k + 1)
    unfolding same_as same_of
    visited-on n u y l room passed noted = record { state = λ j h. go j h (eqb j at) refl }
      where
        d : TypeNoted (rec s p w) (rec b q w) t (get_or t₀ k 0) m n
        d = noted passed

        at : ℕ
        at = d.index

        is : TypeLayout
        is = layout_of (rec s p w) (get_or t at 0)

        was : TypeLayout
        was = layout_of (rec b q w) (get_or t₀ k 0)

        inside : at < length m
        inside = let a = d.inside in omega arith

        here : eqb (get_or n at 0) 0 ≡ same_of (rec s p w) (rec b q w) t at
        here =
            ap (λ (x : List ℕ). eqb (get_or x at 0) 0) d.entry
            ∙ ap (λ (x : ℕ). eqb x 0) (get_or-set_same m at (entry_of (eq_places is.fields was.fields)) 0 inside)
            ∙ entry_zero (eq_places is.fields was.fields)
            ∙ same-either is.fields was.fields
            ∙ sym (rw (d.named, own-type b q t₀ y₀ w k l))

        old : (j : ℕ) → (j ≡ at → ⊥) → get_or n j 0 ≡ get_or m j 0
        old j a = ap (λ (x : List ℕ). get_or x j 0) d.entry ∙ get_or-set_other m at j (entry_of (eq_places is.fields was.fields)) 0 a

        other : (j : ℕ) → j < length t → (j ≡ at → ⊥) → ((i : ℕ) → i < k → type_name b q (get_or t₀ i 0) ≡ type_name s p (get_or t j 0) → ⊥)
            → (i : ℕ) → i < k + 1 → type_name b q (get_or t₀ i 0) ≡ type_name s p (get_or t j 0) → ⊥
        other j h a f i g e = go (eqb i k) refl
          where
            go : (c : Bool) → eqb i k ≡ c → ⊥
            go true x = a (sym (one_name s p t y at j d.inside h (d.named ∙ ap (λ (z : ℕ). type_name b q (get_or t₀ z 0)) (sym (eqb-true i k x)) ∙ e)))
            go false x = let z : i ≡ k → ⊥ = eqb-false i k x in f i (omega arith) e

        keep : (j : ℕ) → j < length t → (j ≡ at → ⊥) → (eqb (get_or m j 0) 0 ≡ same_of (rec s p w) (rec b q w) t j)
            ⊎ ((get_or m j 0 ≡ 1) × ((i : ℕ) → i < k → type_name b q (get_or t₀ i 0) ≡ type_name s p (get_or t j 0) → ⊥))
            → (eqb (get_or n j 0) 0 ≡ same_of (rec s p w) (rec b q w) t j)
            ⊎ ((get_or n j 0 ≡ 1) × ((i : ℕ) → i < k + 1 → type_name b q (get_or t₀ i 0) ≡ type_name s p (get_or t j 0) → ⊥))
        keep j h a (inl e) = inl (ap (λ (x : ℕ). eqb x 0) (old j a) ∙ e)
        keep j h a (inr e) = inr (old j a ∙ e.0, other j h a e.1)

        go : (j : ℕ) → j < length t → (c : Bool) → eqb j at ≡ c → (eqb (get_or n j 0) 0 ≡ same_of (rec s p w) (rec b q w) t j)
            ⊎ ((get_or n j 0 ≡ 1) × ((i : ℕ) → i < k + 1 → type_name b q (get_or t₀ i 0) ≡ type_name s p (get_or t j 0) → ⊥))
        go j h true e = inl (subst (λ (x : ℕ). eqb (get_or n x 0) 0 ≡ same_of (rec s p w) (rec b q w) t x) (sym (eqb-true j at e)) here)
        go j h false e = keep j h (eqb-false j at e) (v.state j h)

-- the types of a record: those so far stand as they were
pub record TypesOn (r : Rec) (t : List ℕ) (is was : List TypeLayout) (i : ℕ) : Type 0 where
  pub inside : i ≤ length t
  pub same : check_fields is was ≡ check_fields is (map (layout_of r) (drop i t))

module _ (r : Rec) (t z : List ℕ) (is : List TypeLayout) (tables : Tables r t z) where
  pub types-here : TypesOn r t is (types_of r) 0
  types-here = record { inside = omega arith; same = ap (check_fields is) (sym (tables.types.layouts r.scalars)) }

module _ (p q : Str) (r : Rec) (t : List ℕ) (is was : List TypeLayout) (i : ℕ) (l : TypesOn r t is was i) where
  pub types-end : length t ≤ i → meaning p q (Ok tt) ≡ check_fields is was
  unfolding check_fields
  types-end h = sym (l.same ∙ each-end _ _ p q (ap (map (layout_of r)) (drop_of_length-le t {i = i} h)))

  module _ (v : Result ⊤ Verdict) (g : i < length t) (h : meaning p q v ≡ check_type is (layout_of r (get_or t i 0))) where
    pub types-on : v ≡ Ok tt → TypesOn r t is was (i + 1)
    unfolding check_fields
    types-on e = record { inside = omega arith; same = l.same ∙ each_on _ _ p q _ _ v (ap (map (layout_of r)) (drop-next t i g)) h e }

    pub types-stop : (z : Result ⊤ Verdict) → HandedOn v z → meaning p q z ≡ check_fields is was
    unfolding check_fields
    types-stop z e = sym (l.same ∙ each-stop _ _ p q _ _ v (ap (map (layout_of r)) (drop-next t i g)) h z e)
