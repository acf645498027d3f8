-- The code's table of the sizes of a record's fields; a size is shape_size of schema.rs, defined in Shapes of record. Assumes nothing.
use Rattle.std.specs.Prelude.{◌≡◌, ℕ, ◌+◌, ◌/◌, get_or, drop, None}
use mathlib.Core.List.{List, Memᴰ}
use Rattle.record.specs.Commands.{field_at, commands_at}
use Rattle.record.specs.Lists.{field_of}
use Rattle.record.specs.Shapes.{shape_size, capped}
use Rattle.record.specs.Reading.{Rec, schema_of}

-- the size of the field whose command is at a place, as far as the limit
unfoldable pub field_size : Rec → ℕ → ℕ
field_size r at = capped (shape_size (schema_of r) (field_of r.pool (field_at (drop at r.stream)) None))

-- the table has the sizes of all fields from a place on; a field's entry is the place after it divided by 33, the bytes that a field takes
pub record SizesFrom (r : Rec) (t : List ℕ) (from : ℕ) : Type 0 where
  pub sized : (at : ℕ) → Memᴰ at (commands_at r.stream from) → get_or r.stream at 0 ≡ 11 → get_or t ((at + 33) / 33) 0 ≡ field_size r at

-- of all fields of the record
abbrev pub SizesTable : Rec → List ℕ → Type 0
SizesTable r t = SizesFrom r t 0
