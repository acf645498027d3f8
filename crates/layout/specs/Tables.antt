-- The code's tables of a record that can be read: its types and the sizes of their fields. Assumes nothing.
use Rattle.std.specs.Prelude.{List, ℕ, ◌/◌, ◌≤◌, length}
use Rattle.record.specs.Reading.{Rec}
use Rattle.record.specs.Read.{Exact}
use Rattle.layout.specs.Table.{TypesTable}
use Rattle.layout.specs.FieldSizes.{SizesTable}

-- the tables are the record's
pub record Tables (r : Rec) (t z : List ℕ) : Type 0 where
  pub short : length r.stream ≤ 32768
  pub exact : Exact r
  pub types : TypesTable r.stream r.pool t
  pub sizes : SizesTable r z
  pub few : length t ≤ length r.stream / 4
