-- The kinds of a field, each by its whole word: 01, Flattening. Assumes nothing.
use Rattle.std.specs.Prelude.{List, [], ◌∷◌, map, Bool, true, false, cond, ℕ, length, eqb}
use Rattle.record.specs.Base.{Str, bytes, eqs}
use Rattle.record.specs.declared.kind.Kind.{Kind}
use Rattle.record.specs.declared.kind.Kind.TheVariants.{Scalar, Enum, TypeAlias, Bitfield, InlineArray, InlineArray2d, CstrPtr, StructPtr}
use Rattle.record.specs.declared.kind.Kind.TheVariants.{StructArrayPtr, StructPtrArrayPtr, TaggedFamPtr, SimpleFamPtr, OpaquePtr, FnPtr}
use Rattle.record.specs.declared.kind.Kind.TheVariants.{Padding, Text, Other}

pub record Word : Type 0 where
  pub spelt : Str
  pub means : Kind

-- 01's sixteen words
unfoldable pub words : List Word
words =
    record { spelt = bytes "scalar"; means = Scalar } ∷
    record { spelt = bytes "enum"; means = Enum } ∷
    record { spelt = bytes "type_alias"; means = TypeAlias } ∷
    record { spelt = bytes "bitfield"; means = Bitfield } ∷
    record { spelt = bytes "inline_array"; means = InlineArray } ∷
    record { spelt = bytes "inline_array2d"; means = InlineArray2d } ∷
    record { spelt = bytes "cstr_ptr"; means = CstrPtr } ∷
    record { spelt = bytes "struct_ptr"; means = StructPtr } ∷
    record { spelt = bytes "struct_array_ptr"; means = StructArrayPtr } ∷
    record { spelt = bytes "struct_ptr_array_ptr"; means = StructPtrArrayPtr } ∷
    record { spelt = bytes "tagged_fam_ptr"; means = TaggedFamPtr } ∷
    record { spelt = bytes "simple_fam_ptr"; means = SimpleFamPtr } ∷
    record { spelt = bytes "opaque_ptr"; means = OpaquePtr } ∷
    record { spelt = bytes "fn_ptr"; means = FnPtr } ∷
    record { spelt = bytes "padding"; means = Padding } ∷
    record { spelt = bytes "string"; means = Text } ∷
    []

unfoldable pub kind_words : List Str
kind_words = map (λ (w : Word). w.spelt) words

-- what the first entry that is spelt so means
unfoldable pub kind_among : List Word → Str → Kind
kind_among [] w = Other
kind_among (x ∷ xs) w = cond (eqs w x.spelt) x.means (kind_among xs w)

-- the entries of words of a length
unfoldable pub of_length : ℕ → List Word → List Word
of_length n [] = []
of_length n (x ∷ xs) = cond (eqb (length x.spelt) n) (x ∷ of_length n xs) (of_length n xs)

-- 01: a kind is recognised by its whole word
unfoldable pub kind_of : Str → Kind
kind_of w = kind_among words w

abbrev pub is_padding : Kind → Bool
is_padding Scalar = false
is_padding Enum = false
is_padding TypeAlias = false
is_padding Bitfield = false
is_padding InlineArray = false
is_padding InlineArray2d = false
is_padding CstrPtr = false
is_padding StructPtr = false
is_padding StructArrayPtr = false
is_padding StructPtrArrayPtr = false
is_padding TaggedFamPtr = false
is_padding SimpleFamPtr = false
is_padding OpaquePtr = false
is_padding FnPtr = false
is_padding Padding = true
is_padding Text = false
is_padding Other = false
