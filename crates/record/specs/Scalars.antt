-- Scalar words and their sizes: prim_size of schema.rs, over a table of rows that is lent. Assumes nothing.
use Rattle.std.specs.Prelude.{ℕ, zero, suc, ◌+◌, ◌-◌, List, [], ◌∷◌, cond, length, take, drop, get_or, leb, Option, Some, None}
use Rattle.record.specs.Base.{Str, bytes, eqs, find}
use Rattle.record.specs.Cut.{before_byte}

pub record Scalar : Type 0 where
  pub word : Str
  pub size : ℕ

-- the bytes before the first 0
unfoldable pub before_zero : Str → Str
before_zero s = before_byte 0 s

-- the row at a place: a word filled up with zeros to eight bytes, and a byte that is its size
unfoldable pub scalar_at : Str → ℕ → Scalar
scalar_at s at = record { word = before_zero (take 8 (drop at s)); size = get_or s (at + 8) 0 }

-- the whole rows from a place on, at most so many: a last part shorter than nine bytes is no row
unfoldable pub scalars_from : ℕ → Str → ℕ → List Scalar
scalars_from zero s at = []
scalars_from (suc n) s at = cond (leb 9 (length s - at)) (scalar_at s at ∷ scalars_from n s (at + 9)) []

unfoldable pub scalars_at : Str → ℕ → List Scalar
scalars_at s at = scalars_from (length s - at) s at

unfoldable pub scalars_of : Str → List Scalar
scalars_of s = scalars_at s 0

-- the first row of a word
unfoldable pub scalar_in : Str → List Scalar → Option Scalar
scalar_in w rows = find (λ (c : Scalar). eqs c.word w) rows

abbrev pub size_found : Option Scalar → ℕ
size_found None = 0
size_found (Some c) = c.size

-- the size of a scalar word, and 0 for a word that is none
unfoldable pub prim_size : List Scalar → Str → ℕ
prim_size rows w = size_found (scalar_in w rows)

-- the words that every schema has, in byte order
unfoldable pub built_in : List Scalar
built_in =
    record { word = bytes "char"; size = 1 } ∷
    record { word = bytes "u16"; size = 2 } ∷
    record { word = bytes "u32"; size = 4 } ∷
    record { word = bytes "u8"; size = 1 } ∷
    []

-- the table that has them
unfoldable pub built_in_rows : Str
built_in_rows = bytes "char\0\0\0\0\u{1}u16\0\0\0\0\0\u{2}u32\0\0\0\0\0\u{4}u8\0\0\0\0\0\0\u{1}"
