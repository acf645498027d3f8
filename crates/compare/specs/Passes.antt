-- What the code has at hand when it runs the passes of a comparison. Assumes nothing.
use Rattle.std.specs.Prelude.{◌≡◌, List, ℕ, ◌≤◌, length, take, Option}
use Rattle.record.specs.Base.{Str}
use Rattle.record.specs.Stretch.{text_of}
use Rattle.record.specs.Lists.{opt_of}
use Rattle.record.specs.Ends.{IndexedTo}
use Rattle.record.specs.Reading.{Rec, schema_of}
use Rattle.record.specs.Read.{Exact}
use Rattle.record.specs.declared.text.Text.{Text}
use Rattle.layout.specs.Room.{Room, SizesRoom}
use Rattle.layout.specs.Tables.{Tables}
use Rattle.definition.specs.Pass.{required}
use Rattle.compare.specs.declared.compare.Facts.{Facts}
use Rattle.compare.specs.declared.compare.Counts.{Counts}

-- premises that travel together ------------------------------------------------------------------------------------------

-- a record that can be read, as the reader says it
pub record Legible (r : Rec) : Type 0 where
  pub short : length r.stream ≤ 32768
  pub exact : Exact r

-- the releases of both records, as stretches
pub record Releases (cur rel : Rec) (current : Text) (copy : Option Text) : Type 0 where
  pub current-is : text_of cur.pool current ≡ required (schema_of cur).release
  pub copy_is : opt_of rel.pool copy ≡ (schema_of rel).release

-- both records are indexed, and the facts are theirs
pub record Prepared (cur rel : Rec) (index old-index : List ℕ) (f : Facts) : Type 0 where
  pub releases : Releases cur rel f.dates.current f.dates.copy
  pub is : IndexedTo cur.stream cur.pool index f.is
  pub was : IndexedTo rel.stream rel.pool old-index f.was

-- both records' tables are filled
pub record TypesLaid (cur rel : Rec) (types sizes old-types old-sizes : List ℕ) : Type 0 where
  pub is : Tables cur types sizes
  pub was : Tables rel old-types old-sizes

-- the tables' fronts are both records' types, and the table that the passes over them fill is long enough
pub record LaidOut (cur rel : Rec) (types sizes old-types old-sizes scratch : List ℕ) (n : Counts) : Type 0 where
  pub laid : TypesLaid cur rel (take n.types types) sizes (take n.shipped old-types) old-sizes
  pub types-inside : n.types ≤ length types
  pub shipped-inside : n.shipped ≤ length old-types
  pub cover-room : length (take n.types types) ≤ length scratch

-- the lent tables are long enough for both streams
pub record TableRooms (s b : Str) (types old-types sizes old-sizes marks scratch : List ℕ) : Type 0 where
  pub types-room : Room s types
  pub constants-room : Room b types
  pub shipped-room : Room b old-types
  pub sizes-room : SizesRoom s sizes
  pub widths-room : SizesRoom b old-sizes
  pub marks-room : length s ≤ length marks
  pub scratch-room : Room s scratch
  pub old-scratch-room : Room b scratch
