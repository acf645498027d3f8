-- Sizes, descriptions and places of fields: shape_size and shape_type of schema.rs, add_type and fam_prefix of layout.rs. Assumes nothing.
use Rattle.std.specs.Prelude.{List, [], ◌∷◌, ◌++◌, Bool, cond, ℕ, ◌+◌, ◌*◌, leb, Option, Some, None}
use Rattle.record.specs.Base.{Str, bytes, decimal, or_else, or_option, map_option}
use Rattle.record.specs.Scalars.{Scalar, prim_size}
use Rattle.record.specs.Schema.{Schema, Field, Family, Enum, Alias, BitField}
use Rattle.record.specs.Steps.{enum_in, alias_in, bitfield_in}
use Rattle.record.specs.Kind.{kind_of, is_padding}
use Rattle.record.specs.declared.kind.Kind.{Kind}
use Rattle.record.specs.declared.kind.Kind.TheVariants as K

-- sizes ------------------------------------------------------------------------------------------------------------------

unfoldable pub enum_size : List Enum → Str → Option ℕ
enum_size es n = map_option (λ (e : Enum). e.size) (enum_in n es)

unfoldable pub alias_size : List Scalar → List Alias → Str → Option ℕ
alias_size w as₀ n = map_option (λ (a : Alias). prim_size w a.underlying) (alias_in n as₀)

unfoldable pub bitfield_size : List BitField → Str → Option ℕ
bitfield_size bs n = map_option (λ (b : BitField). b.size) (bitfield_in n bs)

-- the size of the type that a field names, or this one where it names none or none is declared
unfoldable pub sized : Option Str → (Str → Option ℕ) → ℕ → ℕ
sized None f d = d
sized (Some n) f d = or_else (f n) d

-- the size of a scalar that is a byte where no word is given
unfoldable pub scalar_size : Schema → Option Str → ℕ
scalar_size s t = prim_size s.scalars (or_else t (bytes "u8"))

unfoldable pub size_as : Kind → Schema → Field → ℕ
size_as K.Scalar s f = scalar_size s f.typ
size_as K.Enum s f = sized f.typ (enum_size s.enums) 1
size_as K.TypeAlias s f = sized f.typ (alias_size s.scalars s.aliases) 2
size_as K.Bitfield s f = sized f.typ (bitfield_size s.bitfields) 0
size_as K.InlineArray s f = scalar_size s f.element * or_else f.count 0
size_as K.InlineArray2d s f = scalar_size s f.element * or_else f.rows 0 * or_else f.cols 0
size_as K.CstrPtr s f = 4
size_as K.StructPtr s f = 4
size_as K.StructArrayPtr s f = 4
size_as K.StructPtrArrayPtr s f = 4
size_as K.TaggedFamPtr s f = 4
size_as K.SimpleFamPtr s f = 4
size_as K.OpaquePtr s f = 4
size_as K.FnPtr s f = 4
size_as K.Padding s f = or_else f.size 0
size_as K.Text s f = 0
size_as K.Other s f = 0

unfoldable pub shape_size : Schema → Field → ℕ
shape_size s f = size_as (kind_of f.kind) s f

-- descriptions -----------------------------------------------------------------------------------------------------------

-- what stands after the kind: nothing, or a space and more
unfoldable pub spaced : Option Str → Str
spaced None = []
spaced (Some n) = 32 ∷ n

unfoldable pub named : Field → Str
named f = spaced (or_option f.typ f.element)

unfoldable pub rest_as : Kind → Field → Str
rest_as K.InlineArray f = 32 ∷ or_else f.element (bytes "u8") ++ bytes " x " ++ decimal (or_else f.count 0)
rest_as K.InlineArray2d f =
    32 ∷ or_else f.element (bytes "u8") ++ bytes " x " ++ decimal (or_else f.rows 0)
    ++ bytes " x " ++ decimal (or_else f.cols 0)
rest_as K.Scalar f = named f
rest_as K.Enum f = named f
rest_as K.TypeAlias f = named f
rest_as K.Bitfield f = named f
rest_as K.CstrPtr f = named f
rest_as K.StructPtr f = named f
rest_as K.StructArrayPtr f = named f
rest_as K.StructPtrArrayPtr f = named f
rest_as K.TaggedFamPtr f = named f
rest_as K.SimpleFamPtr f = named f
rest_as K.OpaquePtr f = named f
rest_as K.FnPtr f = named f
rest_as K.Padding f = named f
rest_as K.Text f = named f
rest_as K.Other f = named f

unfoldable pub shape_type : Field → Str
shape_type f = f.kind ++ rest_as (kind_of f.kind) f

-- places -----------------------------------------------------------------------------------------------------------------

pub record FieldLayout : Type 0 where
  pub name : Str
  pub offset : ℕ
  pub size : ℕ
  pub described : Str
  pub padding : Bool

unfoldable pub place_of : Schema → ℕ → Field → FieldLayout
place_of s at f = record {
  name = f.name;
  offset = at;
  size = shape_size s f;
  described = shape_type f;
  padding = is_padding (kind_of f.kind);
}

-- 01: fields follow each other without alignment
unfoldable pub places : Schema → ℕ → List Field → List FieldLayout
places s at [] = []
places s at (f ∷ fs) = place_of s at f ∷ places s (at + shape_size s f) fs

unfoldable pub plain : Str → Str → Str → Field
plain n k t = record {
  name = n;
  kind = k;
  typ = Some t;
  element = None;
  count = None;
  rows = None;
  cols = None;
  size = None;
  key = None;
}

-- 01: family layouts begin with discriminant and length field
unfoldable pub fam_prefix : Family → List Field
fam_prefix m =
    plain m.disc_field (bytes "enum") m.disc_type
    ∷ plain m.len_field (bytes "scalar") (or_else m.len_type (bytes "u8")) ∷ []

-- the limit --------------------------------------------------------------------------------------------------------------

-- 01: the largest end of a field that number 9 lets pass
abbrev pub limit : ℕ
limit = 4294967295

-- a size as far as the limit: one more stands for all that are larger
unfoldable pub capped : ℕ → ℕ
capped n = cond (leb n limit) n (limit + 1)
