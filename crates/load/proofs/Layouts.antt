-- The layouts of a plan's two records: they differ in the root's alone. Assumes nothing.
use Rattle.std.specs.Prelude.{Some}
use mathlib.Core.Path.{◌≡◌, refl, sym, ◌∙◌, ap, ap₂, subst}
use mathlib.Core.List.Memᴰ
use mathlib.Core.List.{List, [], ◌∷◌, ◌++◌, map, map-append, append_assoc, Memᴰ}
use mathlib.Core.Bool.{Bool, true, false, false≢true}
use mathlib.Core.Logic.{◌⊎◌, inl, inr}
use Prim.Native.Nat.{ℕ, ◌+◌}
use Rattle.record.specs.Base.{Str, eqs}
use Rattle.record.specs.Schema.{Schema, Const, Field, Struct, Family, Variant, Version}
use Rattle.record.specs.Kind.{kind_of}
use Rattle.record.specs.Shapes.{FieldLayout, size_as, scalar_size, shape_size, place_of, places, fam_prefix}
use Rattle.record.specs.declared.kind.Kind.{Kind}
use Rattle.record.specs.declared.kind.Kind.TheVariants as K
use Rattle.layout.specs.Sorted.{sorted}
use Rattle.layout.specs.Layout.{TypeLayout, lay_struct, lay_family, lay_variant, lay_families, flattened, types, type_in}
use Rattle.layout.proofs.Origin.{sorted-mem}
use Rattle.layout.proofs.Order.{sorted-last}
use Rattle.record.proofs.Basics.{find-some, eqs→eq, eqs-refl}
use Rattle.definition.specs.Chain.{NoDup}
use Rattle.load.specs.Plan.{Plan, schema_with, released, structs_with, root}
use Rattle.load.specs.Feasible.{Feasible, Other, Apart, field_names}
use Rattle.load.proofs.Each.{last-this, last-other, sorted-self}

-- sizes are those of the released record, in every record of the plan -----------------------------------------------------------------------

module _ (p : Plan) (r : Str) (cs : List Const) (fs : List Field) (vs : List Version) where
  size-as : (k : Kind) (f : Field) → size_as k (schema_with p r cs fs vs) f ≡ size_as k (released p) f
  unfolding size_as scalar_size schema_with released
  size-as K.Scalar f = refl
  size-as K.Enum f = refl
  size-as K.TypeAlias f = refl
  size-as K.Bitfield f = refl
  size-as K.InlineArray f = refl
  size-as K.InlineArray2d f = refl
  size-as K.CstrPtr f = refl
  size-as K.StructPtr f = refl
  size-as K.StructArrayPtr f = refl
  size-as K.StructPtrArrayPtr f = refl
  size-as K.TaggedFamPtr f = refl
  size-as K.SimpleFamPtr f = refl
  size-as K.OpaquePtr f = refl
  size-as K.FnPtr f = refl
  size-as K.Padding f = refl
  size-as K.Text f = refl
  size-as K.Other f = refl

  pub size_same : (f : Field) → shape_size (schema_with p r cs fs vs) f ≡ shape_size (released p) f
  unfolding shape_size
  size_same f = size-as (kind_of f.kind) f

  places_same : (at : ℕ) (l : List Field) → places (schema_with p r cs fs vs) at l ≡ places (released p) at l
  unfolding places place_of
  places_same at [] = refl
  places_same at (f ∷ l) = rw (size_same f) (ap (λ (x : List FieldLayout). place_of (released p) at f ∷ x) (places_same (at + shape_size (released p) f) l))

  struct-same : (l : List Struct) → map (lay_struct (schema_with p r cs fs vs)) l ≡ map (lay_struct (released p)) l
  unfolding lay_struct
  struct-same [] = refl
  struct-same (t ∷ l) = ap₂ ◌∷◌ (ap (λ (x : List FieldLayout). record { name = t.name; fields = x }) (places_same 0 t.fields)) (struct-same l)

  variants-same : (m : Family) (l : List Variant) → map (lay_variant (schema_with p r cs fs vs) m) l ≡ map (lay_variant (released p) m) l
  unfolding lay_variant
  variants-same m [] = refl
  variants-same m (v ∷ l) = ap₂ ◌∷◌ (ap (λ (x : List FieldLayout). lay_variant·with m v x) (places_same 0 v.fields)) (variants-same m l)
    where
      lay_variant·with : Family → Variant → List FieldLayout → TypeLayout
      lay_variant·with m v x = record { name = (lay_variant (released p) m v).name; fields = x }

  families-same : (l : List Family) → lay_families (schema_with p r cs fs vs) l ≡ lay_families (released p) l
  unfolding lay_families lay_family
  families-same [] = refl
  families-same (m ∷ l) =
      ap₂ ◌∷◌ (ap (λ (x : List FieldLayout). record { name = m.name; fields = x }) (places_same 0 (fam_prefix m ++ m.common)))
      (ap₂ ◌++◌ (variants-same m m.variants) (families-same l))

-- all layouts of a record: those before the root's, the root's, and those after it -----------------------------------------------------------

unfoldable pub laid : Plan → List Field → TypeLayout
laid p fs = lay_struct (released p) (root p fs)

unfoldable pub ahead : Plan → List TypeLayout
ahead p = map (lay_struct (released p)) p.before

unfoldable pub behind : Plan → List TypeLayout
behind p = map (lay_struct (released p)) p.after ++ lay_families (released p) p.families

-- the layouts of a record whose root has these fields
unfoldable pub layouts : Plan → List Field → List TypeLayout
layouts p fs = sorted (λ (t : TypeLayout). t.name) (ahead p ++ (laid p fs ∷ behind p))

pub types_are : (p : Plan) (r : Str) (cs : List Const) (fs : List Field) (vs : List Version) → types (schema_with p r cs fs vs) ≡ layouts p fs
unfolding types flattened layouts ahead behind laid structs_with schema_with
types_are p r cs fs vs =
    ap (sorted (λ (t : TypeLayout). t.name))
    (ap₂ ◌++◌ (struct-same p r cs fs vs structs_of) (families-same p r cs fs vs p.families)
    ∙ ap (λ (x : List TypeLayout). x ++ lay_families (released p) p.families) (map-append (lay_struct (released p)) p.before (root p fs ∷ p.after))
    ∙ append_assoc (map (lay_struct (released p)) p.before) (map (lay_struct (released p)) (root p fs ∷ p.after)) (lay_families (released p) p.families))
  where
    structs_of : List Struct
    structs_of = p.before ++ (root p fs ∷ p.after)

pub eqs-swap : (s t : Str) → eqs s t ≡ false → eqs t s ≡ false
eqs-swap s t h = go (eqs t s) refl
  where
    go : (b : Bool) → eqs t s ≡ b → b ≡ false
    go true e = absurd (false≢true (sym h ∙ ap (λ (x : Str). eqs x t) (sym (eqs→eq t s e)) ∙ eqs-refl t))
    go false e = refl

pub place-names : (s : Schema) (at : ℕ) (fs : List Field) → map (λ (f : FieldLayout). f.name) (places s at fs) ≡ field_names fs
unfolding places place_of
place-names s at [] = refl
place-names s at (f ∷ fs) = ap (λ (x : List Str). f.name ∷ x) (place-names s (at + shape_size s f) fs)

module _ (p : Plan) (g : Feasible p) where
  lay-other : (t : Struct) → Other p.name t → Apart p.name (lay_struct (released p) t)
  unfolding lay_struct
  lay-other t o = record { named = o.named; once = subst NoDup (sym (place-names (released p) 0 t.fields)) o.once }

  laid-other : (l : List Struct) → ((t : Struct) → Memᴰ t l → Other p.name t) → (t : TypeLayout) → Memᴰ t (map (lay_struct (released p)) l) → Apart p.name t
  laid-other l h t m =
      let v = Memᴰ.of_map (lay_struct (released p)) l m in
      subst (Apart p.name) v.2 (lay-other v.0 (h v.0 v.1))

  pub ahead_apart : (t : TypeLayout) → Memᴰ t (ahead p) → Apart p.name t
  unfolding ahead
  ahead_apart t m = laid-other p.before g.before-other t m

  pub behind-apart : (t : TypeLayout) → Memᴰ t (behind p) → Apart p.name t
  unfolding behind
  behind-apart t m = go (Memᴰ.append_cases (map (lay_struct (released p)) p.after) m)
    where
      go : Memᴰ t (map (lay_struct (released p)) p.after) ⊎ Memᴰ t (lay_families (released p) p.families) → Apart p.name t
      go (inl n) = laid-other p.after g.after-other t n
      go (inr n) = g.families-apart t n

  pub root-found : (fs : List Field) → type_in p.name (layouts p fs) ≡ Some (laid p fs)
  unfolding type_in layouts laid root lay_struct
  root-found fs =
      sorted-last (λ (t : TypeLayout). t.name) p.name (ahead p ++ (laid p fs ∷ behind p))
      ∙ last-this (λ (t : TypeLayout). t.name) (ahead p) (behind p) p.name (λ t m. (ahead_apart t m).named) (λ t m. (behind-apart t m).named) (laid p fs) refl

  pub other-found : (fs gs : List Field) (m : Str) → eqs p.name m ≡ false → type_in m (layouts p fs) ≡ type_in m (layouts p gs)
  unfolding type_in layouts laid root lay_struct
  other-found fs gs m d =
      sorted-last (λ (t : TypeLayout). t.name) m (ahead p ++ (laid p fs ∷ behind p))
      ∙ last-other (λ (t : TypeLayout). t.name) (ahead p) (behind p) p.name (λ t i. (ahead_apart t i).named) (λ t i. (behind-apart t i).named) (laid p fs) (laid p gs) refl refl m d
      ∙ sym (sorted-last (λ (t : TypeLayout). t.name) m (ahead p ++ (laid p gs ∷ behind p)))

  pub self-found : (fs : List Field) {t : TypeLayout} → Memᴰ t (layouts p fs) → type_in t.name (layouts p fs) ≡ Some t
  unfolding type_in layouts
  self-found fs m = sorted-self (λ (t : TypeLayout). t.name) (ahead p ++ (laid p fs ∷ behind p)) m

  pub root-member : (fs : List Field) → Memᴰ (laid p fs) (layouts p fs)
  unfolding type_in
  root-member fs = (find-some (λ (t : TypeLayout). eqs t.name p.name) (layouts p fs) (root-found fs)).0

  -- a layout is the root's, or apart from it
  pub layout-cases : (fs : List Field) {t : TypeLayout} → Memᴰ t (layouts p fs) → (t ≡ laid p fs) ⊎ Apart p.name t
  unfolding layouts
  layout-cases fs {t} m = go (Memᴰ.append_cases (ahead p) (sorted-mem (λ (t : TypeLayout). t.name) (ahead p ++ (laid p fs ∷ behind p)) m))
    where
      go : Memᴰ t (ahead p) ⊎ Memᴰ t (laid p fs ∷ behind p) → (t ≡ laid p fs) ⊎ Apart p.name t
      go (inl n) = inr (ahead_apart t n)
      go (inr (Memᴰ.head e)) = inl e
      go (inr (Memᴰ.tail n)) = inr (behind-apart t n)
