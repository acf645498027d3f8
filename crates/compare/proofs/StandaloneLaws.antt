-- The cases of the pass over the standalone families. s and p are the current stream and pool, b and q the released ones. Assumes nothing.
use Prim.Native.Nat.{ℕ}
use mathlib.Core.Path.{◌≡◌, refl, sym, ap, subst, ◌∙◌}
use mathlib.Core.List.{List, ◌∷◌}
use mathlib.Core.Bool.{Bool, true, false, not, beq}
use lib.ListN.{get_or}
use Rattle.std.specs.Prelude.{Result, Ok, Err, ⊤, Option, Some, None}
use Rattle.record.specs.Base.{Str, is_some, map_option}
use Rattle.record.specs.Stretch.{text_of}
use Rattle.record.specs.Scalars.{Scalar}
use Rattle.record.specs.Schema as M
use Rattle.record.specs.Shapes.{FieldLayout}
use Rattle.record.specs.Commands.{start}
use Rattle.record.specs.Lists.{opt_of, family_of}
use Rattle.record.specs.Steps.{fields_at, variants_at, families_at, VariantsFrom, FamiliesFrom, family_in, family_found}
use Rattle.record.specs.Reading.{Rec, rec}
use Rattle.record.specs.Read.{Exact}
use Rattle.record.specs.declared.text.Text.{Text}
use Rattle.record.specs.declared.command.Cursor.{Cursor}
use Rattle.record.specs.declared.command.Family.{Family}
use Rattle.record.specs.declared.command.Variant.{Variant}
use Rattle.record.proofs.ListLaws.{find_none, find-hit, find-miss}
use Rattle.record.proofs.StepLaws.{variants-over-now, variants-now, families-over-now, families-now}
use Rattle.layout.specs.Layout.{TypeLayout, variant_name}
use Rattle.layout.specs.Handles.{layout_of}
use Rattle.layout.specs.Names.{name_of}
use Rattle.layout.specs.Table.{Typed, TypesTable, FoundType}
use Rattle.layout.specs.FieldSizes.{SizesTable}
use Rattle.layout.specs.Spots.{places_from, SoundCursor, SpotsFrom, TypeSpots}
use Rattle.layout.specs.declared.names.TypeName.{TypeName}
use Rattle.layout.specs.declared.spots.Spot.{Spot}
use Rattle.layout.specs.declared.spots.SpotCursor.{SpotCursor}
use Rattle.layout.proofs.SpotLaws.{spots-over-now, spots-now, spots-sound}
use Rattle.definition.specs.Verdicts as D
use Rattle.definition.specs.Pass.{◌then◌, ensure, on_found}
use Rattle.definition.specs.Fields.{place_in, eq_places}
use Rattle.compare.specs.Layouts.{types_of, spot_found}
use Rattle.definition.specs.Standalone.{variant_names, layouts_of, gained, check_same, check_shipped, check_shipped_all, check_standing, check_family, check_standalone}
use Rattle.compare.specs.Pairs.{check_pair, PairTyped, PairFound}
use Rattle.verdicts.specs.Meaning.{violation, meaning}
use Rattle.verdicts.specs.declared.verdict.Verdict.{Verdict}
use Rattle.verdicts.specs.declared.verdict.Verdict.TheVariants.{StandingChanged, ShippedFamilyChanged}
use Rattle.verdicts.proofs.PassLaws.{HandedOn, stays}
use Rattle.verdicts.proofs.Each.{each-end, each_on, each-stop}
use Rattle.compare.proofs.FieldLaws.{found-typed}
use Rattle.record.specs.Commands.{Step}
use Rattle.record.specs.declared.command as C

-- the field gained: all so far are known
pub record GainedOn (r : Rec) (z : List ℕ) (was : List FieldLayout) (a c : SpotCursor) : Type 0 where
  pub sound : SoundCursor r z c
  pub same : gained (places_from r a) was ≡ gained (places_from r c) was

pub gained-here : (r : Rec) (z : List ℕ) (was : List FieldLayout) (c : SpotCursor) → SoundCursor r z c → GainedOn r z was c c
gained-here r z was c d = record { sound = d; same = refl }

module _ (s p q : Str) (w : List Scalar) (z : List ℕ) (was : List FieldLayout) (a c : SpotCursor) (i : GainedOn (rec s p w) z was a c) (o : Option (Spot × SpotCursor)) (f : SpotsFrom (rec s p w) z c o) where
  abbrev new : FieldLayout → Bool
  new x = not (is_some (place_in x.name was))

  pub gained-none : o ≡ None → opt_of p None ≡ gained (places_from (rec s p w) a) was
  unfolding gained map_option
  gained-none m = sym (i.same ∙ ap (map_option (λ (x : FieldLayout). x.name)) (find_none new _ (spots-over-now s p w z c o f i.sound m)))

  module _ (x : Spot) (k : SpotCursor) (m : o ≡ Some (x, k)) (u : Str) (g : u ≡ text_of p x.name) (r : Option (Spot × SpotCursor)) (h : place_in u was ≡ spot_found q r) where
    sought : place_in (text_of p x.name) was ≡ spot_found q r
    sought = ap (λ (y : Str). place_in y was) (sym g) ∙ h

    pub gained-new : r ≡ None → opt_of p (Some x.name) ≡ gained (places_from (rec s p w) a) was
    unfolding gained map_option is_some
    gained-new e =
        sym (i.same
        ∙ ap (map_option (λ (y : FieldLayout). y.name)) (find-hit new _ _ _ (spots-now s p w z c o f x k m i.sound) (ap (λ y. not (is_some y)) (sought ∙ ap (spot_found q) e))))

    pub gained-on : (y : Spot) (l : SpotCursor) → r ≡ Some (y, l) → GainedOn (rec s p w) z was a k
    unfolding gained is_some
    gained-on y l e =
        record {
          sound = spots-sound s p w z c o f x k m i.sound;
          same =
              i.same
              ∙ ap (map_option (λ (y : FieldLayout). y.name)) (find-miss new _ _ _ (spots-now s p w z c o f x k m i.sound) (ap (λ y. not (is_some y)) (sought ∙ ap (spot_found q) e)));
        }

-- a layout in both records
module _ (s p b q : Str) (t t₀ : List ℕ) (n : Str) (r r₀ : Option ℕ) (y₀ : TypesTable b q t₀) (f₀ : FoundType b q t₀ n r₀) where
  pub both-new : r₀ ≡ None → PairFound s p b q n None
  unfolding check_shipped on_found
  both-new m = record { checked = λ w. rw (f₀.layout y₀ w, m); typed = tt }

  module _ (j : ℕ) (m₀ : r₀ ≡ Some j) (y : TypesTable s p t) (f : FoundType s p t n r) where
    pub both-gone : r ≡ None → PairFound s p b q n None
    unfolding check_shipped on_found
    both-gone m = record { checked = λ w. rw (f₀.layout y₀ w, m₀, f.layout y w, m); typed = tt }

    pub both-there : (i : ℕ) → r ≡ Some i → PairFound s p b q n (Some (get_or t i 0, get_or t₀ j 0))
    unfolding check_shipped on_found
    both-there i m =
        record { checked = λ w. rw (f₀.layout y₀ w, m₀, f.layout y w, m); typed = (found-typed s p n t r i y f m, found-typed b q n t₀ r₀ j y₀ f₀ m₀) }

-- one layout
module _ (s b : Str) (r : Option (ℕ × ℕ)) (h h₀ : ℕ) (m : r ≡ Some (h, h₀)) (y : PairTyped s b r) where
  pair_typed : Typed s h × Typed b h₀
  pair_typed = subst (PairTyped s b) m y

  pub pair-now : Typed s h
  pair-now = pair_typed.0

  pub pair_then : Typed b h₀
  pair_then = pair_typed.1

module _ (s p b q : Str) (w : List Scalar) (n : TypeName) (r : Option (ℕ × ℕ)) where
  abbrev R : Rec
  R = rec s p w

  abbrev R₀ : Rec
  R₀ = rec b q w

  pub pair-none : r ≡ None → meaning p q (Ok tt) ≡ check_pair R R₀ (name_of p n) r
  unfolding meaning
  pair-none m = rw m

  module _ (h h₀ : ℕ) (m : r ≡ Some (h, h₀)) (t : Bool) (e : t ≡ eq_places (layout_of R h).fields (layout_of R₀ h₀).fields) where
    pub pair_same : t ≡ true → meaning p q (Ok tt) ≡ check_pair R R₀ (name_of p n) r
    unfolding meaning check_same ensure
    pair_same g = rw (m, ← e, g)

    pub pair-changed : (c c₀ : SpotCursor) (o : Option Text) → PairTyped s b r → t ≡ false → TypeSpots s h c → TypeSpots b h₀ c₀
        → opt_of p o ≡ gained (places_from R c) (places_from R₀ c₀) → meaning p q (Err (ShippedFamilyChanged n o)) ≡ check_pair R R₀ (name_of p n) r
    unfolding meaning violation check_same ensure
    pair-changed c c₀ o y g k k₀ l =
        rw (m, ← e, g, ← k.list (pair-now s b r h h₀ m y) p w, ← k₀.list (pair_then s b r h h₀ m y) q w, l)

  -- its cursors are sound
  module _ (h h₀ : ℕ) (m : r ≡ Some (h, h₀)) (y : PairTyped s b r) (z : List ℕ) (c : SpotCursor) where
    pub pair-sound : SizesTable R z → Exact R → TypeSpots s h c → SoundCursor R z c
    pair-sound x e k = k.sound (pair-now s b r h h₀ m y) p w z x e

    pub pair-sound-then : SizesTable R₀ z → Exact R₀ → TypeSpots b h₀ c → SoundCursor R₀ z c
    pair-sound-then x e k = k.sound (pair_then s b r h h₀ m y) q w z x e

-- what the pair says is what the name does
module _ (s p b q : Str) (w : List Scalar) (n : Str) (r : Option (ℕ × ℕ)) (v : Result ⊤ Verdict) (f : PairFound s p b q n r) (h : meaning p q v ≡ check_pair (rec s p w) (rec b q w) n r) where
  of-name : meaning p q v ≡ check_shipped (types_of (rec s p w)) (types_of (rec b q w)) n
  of-name = h ∙ sym (f.checked w)

  -- the layouts of a family
  module _ (l : List Str) where
    pub layouts-own : (z : Result ⊤ Verdict) → HandedOn v z → meaning p q z ≡ check_shipped_all (types_of (rec s p w)) (types_of (rec b q w)) (n ∷ l)
    unfolding check_shipped_all
    layouts-own z g = sym (each-stop _ _ p q n l v refl of-name z g)

    pub layouts-rest : (u : Result ⊤ Verdict) → v ≡ Ok tt → meaning p q u ≡ check_shipped_all (types_of (rec s p w)) (types_of (rec b q w)) l
        → meaning p q u ≡ check_shipped_all (types_of (rec s p w)) (types_of (rec b q w)) (n ∷ l)
    unfolding check_shipped_all
    layouts-rest u g e = e ∙ sym (each_on _ _ p q n l v refl of-name g)

-- the layouts of a family's variants
module _ (s p b q : Str) (w : List Scalar) (o : Text) (at : ℕ) (r : Step C.Variant.Variant) (f : VariantsFrom s at r) where
  abbrev from : ℕ → D.Verdict
  from i = check_shipped_all (types_of (rec s p w)) (types_of (rec b q w)) (variant_names (text_of p o) (variants_at s p i))

  pub variants-end : r ≡ None → from at ≡ meaning p q (Ok tt)
  unfolding check_shipped_all variant_names
  variants-end m = each-end _ _ p q (ap (variant_names (text_of p o)) (variants-over-now s at r f p m))

  module _ (e : Variant) (k : Cursor) (v : Result ⊤ Verdict) (c : Option (ℕ × ℕ)) (m : r ≡ Some (e, k)) (g : PairFound s p b q (variant_name (text_of p o) (text_of p e.discriminant)) c)
      (h : meaning p q v ≡ check_pair (rec s p w) (rec b q w) (variant_name (text_of p o) (text_of p e.discriminant)) c) where
    pub variants-on : v ≡ Ok tt → from at ≡ from k.at
    unfolding check_shipped_all variant_names
    variants-on i = each_on _ _ p q _ _ v (ap (variant_names (text_of p o)) (variants-now s at r f p e k m)) (of-name s p b q w _ c v g h) i

    pub variants-stop : (z : Result ⊤ Verdict) → HandedOn v z → from at ≡ meaning p q z
    unfolding check_shipped_all variant_names
    variants-stop z i = each-stop _ _ p q _ _ v (ap (variant_names (text_of p o)) (variants-now s at r f p e k m)) (of-name s p b q w _ c v g h) z i

-- how a family stands
module _ (p b q x : Str) (n : Text) (t : Bool) (z : Cursor) (r : Step C.Family.Family) (g : x ≡ text_of p n) (y : z ≡ start) (h : family_in x (families_at b q z.at) ≡ family_found b q r) where
  standing : family_in (text_of p n) (families_at b q 0) ≡ family_found b q r
  standing = rw (← g, ← ap (λ (c : Cursor). c.at) y) h

  pub standing-new : r ≡ None → meaning p q (Ok tt) ≡ check_standing (families_at b q 0) (text_of p n) t
  unfolding meaning check_standing on_found
  standing-new m = rw (standing, m)

  module _ (a : Family) (k : Cursor) (m : r ≡ Some (a, k)) where
    pub standing-same : beq a.standalone t ≡ true → meaning p q (Ok tt) ≡ check_standing (families_at b q 0) (text_of p n) t
    unfolding meaning check_standing on_found ensure
    standing-same e = rw (standing, m, e)

    pub standing-other : beq a.standalone t ≡ false → meaning p q (Err (StandingChanged n a.standalone t)) ≡ check_standing (families_at b q 0) (text_of p n) t
    unfolding meaning violation check_standing on_found ensure
    standing-other e = rw (standing, m, e)

-- one family
module _ (p q : Str) (ms : List M.Family) (is was : List TypeLayout) (a : Family) (fs : List M.Field) (vs : List M.Variant) (v : Result ⊤ Verdict) (h : meaning p q v ≡ check_standing ms (text_of p a.name) a.standalone) where
  pub family-standing : (z : Result ⊤ Verdict) → HandedOn v z → meaning p q z ≡ check_family ms is was (family_of p a fs vs)
  unfolding check_family
  family-standing z g = rw (← h) (sym (stays p q v z _ g))

  module _ (g : v ≡ Ok tt) where
    stands : check_standing ms (text_of p a.name) a.standalone ≡ meaning p q (Ok tt)
    stands = sym h ∙ ap (meaning p q) g

    pub family-owned : a.standalone ≡ false → meaning p q (Ok tt) ≡ check_family ms is was (family_of p a fs vs)
    unfolding meaning check_family ◌then◌ ensure
    family-owned e = rw (stands, e)

    pub family-shipped : (u : Result ⊤ Verdict) → a.standalone ≡ true → meaning p q u ≡ check_shipped_all is was (text_of p a.name ∷ variant_names (text_of p a.name) vs)
        → meaning p q u ≡ check_family ms is was (family_of p a fs vs)
    unfolding meaning check_family ◌then◌ ensure layouts_of
    family-shipped u e f = rw (stands, e) f

-- the families of a record
module _ (s p q : Str) (ms : List M.Family) (is was : List TypeLayout) where
  pub families-begin : (z : Cursor) → z ≡ start → check_standalone (families_at s p 0) ms is was ≡ check_standalone (families_at s p z.at) ms is was
  families-begin z y = ap (λ (c : Cursor). check_standalone (families_at s p c.at) ms is was) (sym y)

  module _ (at : ℕ) (r : Step C.Family.Family) (f : FamiliesFrom s at r) where
    pub families-end : r ≡ None → check_standalone (families_at s p at) ms is was ≡ meaning p q (Ok tt)
    unfolding check_standalone
    families-end m = each-end _ _ p q (families-over-now s at r f p m)

    module _ (e : Family) (k : Cursor) (v : Result ⊤ Verdict) (m : r ≡ Some (e, k)) (h : meaning p q v ≡ check_family ms is was (family_of p e (fields_at s p k.at) (variants_at s p k.at))) where
      pub families-on : v ≡ Ok tt → check_standalone (families_at s p at) ms is was ≡ check_standalone (families_at s p k.at) ms is was
      unfolding check_standalone
      families-on g = each_on _ _ p q _ _ v (families-now s at r f p e k m) h g

      pub families-stop : (z : Result ⊤ Verdict) → HandedOn v z → check_standalone (families_at s p at) ms is was ≡ meaning p q z
      unfolding check_standalone
      families-stop z g = each-stop _ _ p q _ _ v (families-now s at r f p e k m) h z g
