-- What counting asks of its tables, and what its look-ups answer. Assumes nothing.
use Rattle.std.specs.Prelude.{ℕ, ◌≤◌, ◌≡◌, List, Bool, length}
use Rattle.record.specs.Base.{Str, is_some}
use Rattle.record.specs.Scalars.{Scalar}
use Rattle.record.specs.Index.{IndexRoom}
use Rattle.record.specs.Reading.{Rec, rec, schema_of}
use Rattle.record.specs.Read.{Exact}
use Rattle.layout.specs.Layout.{TypeLayout, types, type_in}
use Rattle.layout.specs.Room.{Room, SizesRoom}
use Rattle.layout.specs.Table.{TypesTable}
use Rattle.drafts.specs.Count.{gone}

-- the layouts of a record
abbrev pub layouts_of : Rec → List TypeLayout
layouts_of r = types (schema_of r)

-- what the reading says of a record
pub record Legible (r : Rec) : Type 0 where
  pub short : length r.stream ≤ 32768
  pub exact : Exact r

-- all tables that laying out takes, long enough for a record
pub record Lent (r : Rec) (index types scratch sizes : List ℕ) : Type 0 where
  pub legible : Legible r
  pub index-room : IndexRoom r.stream index
  pub types-room : Room r.stream types
  pub scratch-room : Room r.stream scratch
  pub sizes-room : SizesRoom r.stream sizes

-- tables of types and of sizes that are long enough for a record
pub record Rooms (r : Rec) (types sizes : List ℕ) : Type 0 where
  pub legible : Legible r
  pub types-room : Room r.stream types
  pub sizes-room : SizesRoom r.stream sizes

-- whether a record has a type of a name, whatever the scalar words
pub record IsThere (s p : Str) (t : List ℕ) (n : Str) (r : Bool) : Type 0 where
  pub answer : TypesTable s p t → (w : List Scalar) → r ≡ is_some (type_in n (layouts_of (rec s p w)))

-- how many types of a record another has not
pub record Gone (b q : Str) (u : List ℕ) (s p : Str) (t : List ℕ) (r : ℕ) : Type 0 where
  pub answer : TypesTable b q u → TypesTable s p t → (w : List Scalar) → r ≡ length (gone (layouts_of (rec b q w)) (layouts_of (rec s p w)))
  pub few : r ≤ length u
