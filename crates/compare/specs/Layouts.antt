-- The layouts of a record, and what the code's look-up of a field answers, as check_fields of layout.rs finds it. Assumes nothing.
use Rattle.std.specs.Prelude.{List, Option, Some, None}
use Rattle.record.specs.Base.{Str}
use Rattle.record.specs.Shapes.{FieldLayout}
use Rattle.record.specs.Reading.{Rec, schema_of}
use Rattle.layout.specs.Layout.{TypeLayout, types}
use Rattle.layout.specs.Spots.{spot_of}
use Rattle.layout.specs.declared.spots.Spot.{Spot}
use Rattle.layout.specs.declared.spots.SpotCursor.{SpotCursor}

-- the record's types in byte order of their names
abbrev pub types_of : Rec → List TypeLayout
types_of r = types (schema_of r)

-- the field alone
abbrev pub spot_found : Str → Option (Spot × SpotCursor) → Option FieldLayout
spot_found p None = None
spot_found p (Some (x, k)) = Some (spot_of p x)
