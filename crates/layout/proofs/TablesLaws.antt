-- The tables of a record, from what fills each. Assumes nothing.
use Prim.Native.Nat.{ℕ, ◌/◌, ◌≤◌}
use mathlib.Core.List.{List}
use native.Mathlib.Omega.{arith}
use lib.ListN.{length, take, length-take}
use Rattle.record.specs.Base.{Str}
use Rattle.record.specs.Index.{IndexRoom, Indexed}
use Rattle.record.specs.Reading.{Rec}
use Rattle.record.specs.Read.{Exact}
use Rattle.layout.specs.Table.{TypesTable}
use Rattle.layout.specs.FieldSizes.{SizesTable}
use Rattle.layout.specs.Tables.{Tables}

pub tables-are : (r : Rec) (t z : List ℕ) (n : ℕ) → length r.stream ≤ 32768 → Exact r → SizesTable r z → TypesTable r.stream r.pool (take n t)
    → n ≤ length r.stream / 4 → Tables r (take n t) z
tables-are r t z n a e f g h = record { short = a; exact = e; types = g; sizes = f; few = let l = length-take n t in omega arith }

-- what fill_index answers where the index has room for the record
pub index-filled : (s p : Str) (x y : List ℕ) → length s ≤ 32768 → IndexRoom s x → (length s ≤ 32768 → IndexRoom s x → Indexed s p y) → Indexed s p y
index-filled s p x y a b f = f a b
