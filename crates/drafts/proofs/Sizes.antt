-- No size and no place of a field depends on the types that a record has. Assumes nothing.
use mathlib.Core.Path.{◌≡◌, refl, ap}
use mathlib.Core.List.{List, [], ◌∷◌}
use Prim.Native.Nat.{ℕ, ◌+◌}
use Rattle.record.specs.Schema.{Schema, Field}
use Rattle.record.specs.Kind.{kind_of}
use Rattle.record.specs.Shapes.{FieldLayout, scalar_size, size_as, shape_size, place_of, places}
use Rattle.record.specs.declared.kind.Kind.{Kind}
use Rattle.record.specs.declared.kind.Kind.TheVariants as K
use Rattle.drafts.specs.Effects.{SameRest}

module _ (a b : Schema) (r : SameRest a b) where
  size_same : (k : Kind) (f : Field) → size_as k a f ≡ size_as k b f
  unfolding size_as scalar_size
  size_same K.Scalar f = rw r.scalars
  size_same K.Enum f = rw r.enums
  size_same K.TypeAlias f = rw (r.scalars, r.aliases)
  size_same K.Bitfield f = rw r.bitfields
  size_same K.InlineArray f = rw r.scalars
  size_same K.InlineArray2d f = rw r.scalars
  size_same K.CstrPtr f = refl
  size_same K.StructPtr f = refl
  size_same K.StructArrayPtr f = refl
  size_same K.StructPtrArrayPtr f = refl
  size_same K.TaggedFamPtr f = refl
  size_same K.SimpleFamPtr f = refl
  size_same K.OpaquePtr f = refl
  size_same K.FnPtr f = refl
  size_same K.Padding f = refl
  size_same K.Text f = refl
  size_same K.Other f = refl

  shape_same : (f : Field) → shape_size a f ≡ shape_size b f
  unfolding shape_size
  shape_same f = size_same (kind_of f.kind) f

  pub places_same : (at : ℕ) (fs : List Field) → places a at fs ≡ places b at fs
  unfolding places place_of
  places_same at [] = refl
  places_same at (f ∷ fs) = rw (shape_same f) (ap (λ (l : List FieldLayout). place_of b at f ∷ l) (places_same (at + shape_size b f) fs))
