-- The fields of a type one after the other: what the code's cursor has ahead, and what a step along it answers. The fields are add_type and
-- fam_prefix of layout.rs, defined in Shapes of record. Assumes nothing.
use Rattle.std.specs.Prelude.{◌≡◌, ℕ, suc, ◌+◌, ◌-◌, ◌/◌, ◌≤◌, length, drop, Option, Some, None}
use mathlib.Core.List.{List, [], ◌∷◌, ◌++◌, Memᴰ}
use Rattle.record.specs.Base.{Str, eqs, find}
use Rattle.record.specs.Stretch.{text_of}
use Rattle.record.specs.Operands.{text_at}
use Rattle.record.specs.Scalars.{Scalar}
use Rattle.record.specs.Schema.{Field}
use Rattle.record.specs.Commands.{field_at}
use Rattle.record.specs.Lists.{field_of, family_of}
use Rattle.record.specs.Kind.{kind_of, is_padding}
use Rattle.record.specs.Steps.{fields_at}
use Rattle.record.specs.Shapes.{shape_type, FieldLayout, places, fam_prefix, limit}
use Rattle.record.specs.Describe.{described_as}
use Rattle.record.specs.Reading.{Rec, rec, schema_of}
use Rattle.record.specs.Read.{Exact}
use Rattle.layout.specs.declared.spots.Spot.{Spot}
use Rattle.layout.specs.declared.spots.Ahead.{Ahead}
use Rattle.layout.specs.declared.spots.Ahead.TheVariants.{Front, Middle, Body}
use Rattle.layout.specs.declared.spots.SpotCursor.{SpotCursor}
use Rattle.layout.specs.Handles.{layout_of}
use Rattle.layout.specs.Table.{Typed}
use Rattle.layout.specs.FieldSizes.{SizesFrom, SizesTable}

-- a field as the code hands it out
abbrev pub spot_of : Str → Spot → FieldLayout
spot_of p x = record {
  name = text_of p x.name;
  offset = x.offset;
  size = x.size;
  described = described_as p x.described;
  padding = x.padding;
}

-- the field whose command some bytes begin with
abbrev pub place_at : Str → Str → ℕ → ℕ → FieldLayout
place_at p s offset size = record {
  name = text_of p (text_at s 1);
  offset = offset;
  size = size;
  described = shape_type (field_of p (field_at s) None);
  padding = is_padding (kind_of (text_of p (text_at s 4)));
}

abbrev pub cursor_at : Ahead → ℕ → SpotCursor
cursor_at a offset = record { ahead = a; offset = offset }

-- what is ahead -----------------------------------------------------------------------------------------------------------

-- where the fields of the record go on
abbrev pub body_place : Ahead → ℕ
body_place (Front f k) = k.at
body_place (Middle f k) = k.at
body_place (Body k) = k.at

-- the fields still to come: of a family's front both, its second or none, and those of the record
abbrev pub fields_ahead : Str → Str → Ahead → List Field
fields_ahead s p (Front f k) = fam_prefix (family_of p f [] []) ++ fields_at s p k.at
fields_ahead s p (Middle f k) = drop 1 (fam_prefix (family_of p f [] [])) ++ fields_at s p k.at
fields_ahead s p (Body k) = fields_at s p k.at

unfoldable pub places_from : Rec → SpotCursor → List FieldLayout
places_from r c = places (schema_of r) c.offset (fields_ahead r.stream r.pool c.ahead)

-- a bound of how many they are: a field takes 33 bytes of the stream
abbrev pub ahead_left : Str → Ahead → ℕ
ahead_left s (Front f k) = (length s - k.at) / 33 + 2
ahead_left s (Middle f k) = (length s - k.at) / 33 + 1
ahead_left s (Body k) = (length s - k.at) / 33

abbrev pub spots_left : Str → SpotCursor → ℕ
spots_left s c = ahead_left s c.ahead

-- the table has the sizes of the fields ahead, and all of these end within the limit
pub record SoundCursor (r : Rec) (t : List ℕ) (c : SpotCursor) : Type 0 where
  pub sizes : SizesFrom r t (body_place c.ahead)
  pub ends : (f : FieldLayout) → Memᴰ f (places_from r c) → f.offset + f.size ≤ limit

-- a step ------------------------------------------------------------------------------------------------------------------

abbrev pub spots_of : Rec → Option (Spot × SpotCursor) → List FieldLayout
spots_of r None = []
spots_of r (Some (x, d)) = spot_of r.pool x ∷ places_from r d

abbrev pub SoundAfter : Rec → List ℕ → Option (Spot × SpotCursor) → Type 0
SoundAfter r t None = Unit
SoundAfter r t (Some (x, d)) = SoundCursor r t d

abbrev pub step_left : Str → Option (Spot × SpotCursor) → ℕ
step_left s None = 0
step_left s (Some (x, d)) = suc (spots_left s d)

pub record SpotsFrom (r : Rec) (t : List ℕ) (c : SpotCursor) (step : Option (Spot × SpotCursor)) : Type 0 where
  pub list : SoundCursor r t c → places_from r c ≡ spots_of r step
  pub sound : SoundCursor r t c → SoundAfter r t step
  pub left : step_left r.stream step ≤ spots_left r.stream c

-- the front of a type: all of its fields are ahead, whatever the pool and the scalar words
pub record TypeSpots (s : Str) (h : ℕ) (c : SpotCursor) : Type 0 where
  pub list : Typed s h → (p : Str) (w : List Scalar) → places_from (rec s p w) c ≡ (layout_of (rec s p w) h).fields
  pub sound : Typed s h → (p : Str) (w : List Scalar) (t : List ℕ) → SizesTable (rec s p w) t → Exact (rec s p w) → SoundCursor (rec s p w) t c

-- the first field of a name from a cursor on is the first from another on, which is not further from the end
pub record OthersPassed (s p : Str) (t : List ℕ) (n : Str) (c d : SpotCursor) : Type 0 where
  pub same : (w : List Scalar) → SoundCursor (rec s p w) t c
      → find (λ (f : FieldLayout). eqs f.name n) (places_from (rec s p w) c)
      ≡ find (λ (f : FieldLayout). eqs f.name n) (places_from (rec s p w) d)
  pub sound : (w : List Scalar) → SoundCursor (rec s p w) t c → SoundCursor (rec s p w) t d
  pub left : spots_left s d ≤ spots_left s c
