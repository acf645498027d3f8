-- The lines of the fields ahead of the code's cursor, put into a buffer; a line is defined in Listing. Assumes nothing.
use Rattle.std.specs.Prelude.{List, ℕ, ◌+◌, ◌*◌, ◌/◌, ◌≤◌, length}
use Rattle.record.specs.Base.{Str}
use Rattle.record.specs.Scalars.{Scalar}
use Rattle.record.specs.Reading.{rec}
use Rattle.record.specs.Write.{Puts}
use Rattle.layout.specs.declared.spots.SpotCursor.{SpotCursor}
use Rattle.layout.specs.Listing.{lines_of}
use Rattle.layout.specs.Spots.{places_from, spots_left, SoundCursor}

-- the lines are put at a place, under a type's name and by the sizes of a table, whatever the scalar words; a line has at most 2048 bytes
pub record LinesFrom (s p : Str) (t : List ℕ) (n : Str) (c : SpotCursor) (out : Str) (at : ℕ) (after : Str) (r : ℕ) : Type 0 where
  pub lines : (w : List Scalar) → SoundCursor (rec s p w) t c → Puts out at (lines_of n (places_from (rec s p w) c)) after r
  pub near : r ≤ at + 2048 * spots_left s c

-- the most bytes that the lines of one type have: 2048 a field, of which there are two in front of a family
abbrev pub lines_most : Str → ℕ
lines_most s = 2048 * (length s / 33 + 2)
