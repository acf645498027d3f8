-- The texts that the code's descriptions of fields stand for; what a field's description is, shape_type of schema.rs, stands in Shapes.
-- Assumes nothing.
use Rattle.std.specs.Prelude.{◌≡◌, ◌∷◌, ◌++◌, ℕ, Option, None}
use Rattle.record.specs.Base.{Str, bytes, decimal, or_else}
use Rattle.record.specs.Stretch.{text_of}
use Rattle.record.specs.Operands.{text_at}
use Rattle.record.specs.Commands.{field_at}
use Rattle.record.specs.Lists.{opt_of, field_of}
use Rattle.record.specs.Kind.{kind_of, is_padding}
use Rattle.record.specs.Shapes.{shape_type}
use Rattle.record.specs.declared.describe.Shape.{Shape}
use Rattle.record.specs.declared.describe.Description.{Description}
use Rattle.record.specs.declared.describe.Description.TheVariants.{Plain, Named, Array, Array2d, Discriminant, Length}
use Rattle.record.specs.declared.text.Text.{Text}

-- the word of a scalar: a byte's where none is given
abbrev pub element_of : Str → Option Text → Str
element_of p e = or_else (opt_of p e) (bytes "u8")

-- a dimension of an array
abbrev pub times : ℕ → Str
times n = bytes " x " ++ decimal n

abbrev pub described_as : Str → Description → Str
described_as p (Plain k) = text_of p k
described_as p (Named k n) = text_of p k ++ (32 ∷ text_of p n)
described_as p (Array k e n) = text_of p k ++ (32 ∷ element_of p e ++ bytes " x " ++ decimal n)
described_as p (Array2d k e m n) = text_of p k ++ (32 ∷ element_of p e ++ bytes " x " ++ decimal m ++ bytes " x " ++ decimal n)
described_as p (Discriminant n) = bytes "enum " ++ text_of p n
described_as p (Length e) = bytes "scalar " ++ element_of p e

-- how the field reads whose command some bytes begin with, and whether it is padding
pub record Shaped (p s : Str) (r : Shape) : Type 0 where
  pub text : described_as p r.described ≡ shape_type (field_of p (field_at s) None)
  pub padded : r.padding ≡ is_padding (kind_of (text_of p (text_at s 4)))
