-- The list of a record's layouts, by 01, Flattening: one line a field, types in byte order, fields in record order. Assumes nothing.
use Rattle.std.specs.Prelude.{List, [], ◌∷◌, ◌++◌}
use Rattle.record.specs.Base.{Str, bytes, decimal}
use Rattle.record.specs.Fill.{joined}
use Rattle.record.specs.Schema.{Schema}
use Rattle.record.specs.Shapes.{FieldLayout}
use Rattle.layout.specs.Layout.{TypeLayout, types}

-- 01: type name, dot, field name, space, offset, space, size, space, description, line feed
unfoldable pub line_of : Str → FieldLayout → Str
line_of t f =
    joined (t ∷ bytes "." ∷ f.name ∷ bytes " " ∷ decimal f.offset ∷ bytes " " ∷ decimal f.size ∷ bytes " " ∷ f.described ∷ bytes "\n" ∷ [])

unfoldable pub lines_of : Str → List FieldLayout → Str
lines_of t [] = []
lines_of t (f ∷ fs) = line_of t f ++ lines_of t fs

-- 01: types without fields have no line
unfoldable pub lines_of_all : List TypeLayout → Str
lines_of_all [] = []
lines_of_all (t ∷ ts) = lines_of t.name t.fields ++ lines_of_all ts

unfoldable pub list_of : Schema → Str
list_of s = lines_of_all (types s)
