-- Fields of two types that are alike: what the code passes over where it compares the fields of two types. Assumes nothing.
use Rattle.std.specs.Prelude.{◌≡◌, List, ◌∷◌, ℕ, ◌+◌, ◌/◌, get_or, Option, Some, None}
use Rattle.record.specs.Base.{Str}
use Rattle.record.specs.Stretch.{text_of}
use Rattle.record.specs.Scalars.{Scalar}
use Rattle.record.specs.Commands.{place}
use Rattle.record.specs.Lists.{opt_of}
use Rattle.record.specs.Seek.{SoughtFrom}
use Rattle.record.specs.Shapes.{FieldLayout, capped}
use Rattle.record.specs.Reading.{Rec, rec}
use Rattle.record.specs.declared.command as C
use Rattle.record.specs.declared.seek.Between.TheVariants.{Keys}
use Rattle.layout.specs.Handles.{name_at}
use Rattle.layout.specs.Spots.{cursor_at, places_from, SoundCursor}
use Rattle.layout.specs.declared.spots.Ahead.TheVariants.{Body}
use Rattle.layout.specs.declared.spots.SpotCursor.{SpotCursor}
use Rattle.definition.specs.Fields.{eq_places}

-- the fields of a record from a place on, at an offset
abbrev pub body_at : ℕ → ℕ → SpotCursor
body_at at offset = cursor_at (Body (place at)) offset

-- the numbers of two fields
pub record SameNumbers (f g : C.Field.Field) : Type 0 where
  pub count : f.count ≡ g.count
  pub rows : f.rows ≡ g.rows
  pub cols : f.cols ≡ g.cols
  pub size : f.size ≡ g.size

-- the texts of two fields
pub record SameTexts (p q : Str) (f g : C.Field.Field) : Type 0 where
  pub name : text_of p f.name ≡ text_of q g.name
  pub kind : text_of p f.kind ≡ text_of q g.kind
  pub typ : opt_of p f.type_name ≡ opt_of q g.type_name
  pub element : opt_of p f.element ≡ opt_of q g.element

-- the fields from one pair of cursors on are the same where those from another pair on are
pub record AlikePassed (s p : Str) (z : List ℕ) (b q : Str) (y : List ℕ) (c c₀ d d₀ : SpotCursor) : Type 0 where
  pub same : (w : List Scalar) → SoundCursor (rec s p w) z c → SoundCursor (rec b q w) y c₀
      → eq_places (places_from (rec s p w) c) (places_from (rec b q w) c₀) ≡ eq_places (places_from (rec s p w) d) (places_from (rec b q w) d₀)
  pub sound : (w : List Scalar) → SoundCursor (rec s p w) z c → SoundCursor (rec b q w) y c₀ → SoundCursor (rec s p w) z d
  pub sound₀ : (w : List Scalar) → SoundCursor (rec s p w) z c → SoundCursor (rec b q w) y c₀ → SoundCursor (rec b q w) y d₀

-- two types begin with one field, which has this name
pub record Begins (r : Rec) (z : List ℕ) (r₀ : Rec) (y : List ℕ) (n : Str) (c c₀ d d₀ : SpotCursor) : Type 0 where
  pub field : FieldLayout
  pub named : field.name ≡ n
  pub first : places_from r c ≡ field ∷ places_from r d
  pub second : places_from r₀ c₀ ≡ field ∷ places_from r₀ d₀
  pub sound : SoundCursor r z d
  pub sound₀ : SoundCursor r₀ y d₀

-- the next fields from two places on, whatever their one offset
pub record AlikeNext (s p : Str) (z : List ℕ) (at : ℕ) (b q : Str) (y : List ℕ) (to a k l size : ℕ) : Type 0 where
  pub passed : (w : List Scalar) (offset e : ℕ) → e ≡ capped (offset + size)
      → SoundCursor (rec s p w) z (body_at at offset)
      → SoundCursor (rec b q w) y (body_at to offset)
      → Begins (rec s p w) z (rec b q w) y (name_at s p a) (body_at at offset) (body_at to offset) (body_at k e) (body_at l e)
  pub sought : SoughtFrom s Keys 11 at (Some (a, k))
  pub sized : size ≡ get_or z (k / 33) 0

abbrev pub AlikeFrom : Str → Str → List ℕ → ℕ → Str → Str → List ℕ → ℕ → Option (ℕ × ℕ × ℕ × ℕ) → Type 0
AlikeFrom s p z at b q y to None = Unit
AlikeFrom s p z at b q y to (Some (a, k, l, size)) = AlikeNext s p z at b q y to a k l size
