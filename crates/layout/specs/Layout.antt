-- Flattening: add_type, variant_name, of_schema and of_released of layout.rs, and 01, Flattening. Both sides are flattened by one function.
-- Assumes nothing.
use Rattle.std.specs.Prelude.{List, [], ◌∷◌, ◌++◌, map, Option}
use Rattle.record.specs.Base.{Str, eqs, find}
use Rattle.record.specs.Schema.{Schema, Struct, Family, Variant}
use Rattle.record.specs.Shapes.{FieldLayout, places, fam_prefix}
use Rattle.layout.specs.Sorted.{sorted}

pub record TypeLayout : Type 0 where
  pub name : Str
  pub fields : List FieldLayout

-- a family's name, "::" and a discriminant
unfoldable pub variant_name : Str → Str → Str
variant_name f d = f ++ 58 ∷ 58 ∷ d

unfoldable pub lay_struct : Schema → Struct → TypeLayout
lay_struct s t = record { name = t.name; fields = places s 0 t.fields }

-- 01: family layouts begin with discriminant and length field
unfoldable pub lay_family : Schema → Family → TypeLayout
lay_family s m = record { name = m.name; fields = places s 0 (fam_prefix m ++ m.common) }

unfoldable pub lay_variant : Schema → Family → Variant → TypeLayout
lay_variant s m v = record { name = variant_name m.name v.disc; fields = places s 0 v.fields }

-- each family is followed by its variants: the order of of_schema and of_released
unfoldable pub lay_families : Schema → List Family → List TypeLayout
lay_families s [] = []
lay_families s (m ∷ ms) = lay_family s m ∷ map (lay_variant s m) m.variants ++ lay_families s ms

-- 01: family layouts come after all structs. Every layout, in the order in which the Rust inserts them
unfoldable pub flattened : Schema → List TypeLayout
flattened s = map (lay_struct s) s.structs ++ lay_families s s.families

-- 01's layouts of a record: types in byte order, of two of one name the later
unfoldable pub types : Schema → List TypeLayout
types s = sorted (λ (t : TypeLayout). t.name) (flattened s)

unfoldable pub type_in : Str → List TypeLayout → Option TypeLayout
type_in n l = find (λ (t : TypeLayout). eqs t.name n) l
