-- A record's fields by the code's table of their sizes. Assumes nothing.
use Rattle.std.specs.Prelude.{List, ℕ}
use Rattle.record.specs.Reading.{Rec}
use Rattle.record.specs.Read.{Exact}
use Rattle.layout.specs.FieldSizes.{SizesTable}

-- the table has the sizes of all fields, and all fields end within the limit
abbrev pub Measures : Rec → List ℕ → Type 0
Measures r z = SizesTable r z × Exact r
