-- What the code knows when it holds a draft under a name. Assumes nothing.
use Rattle.std.specs.Prelude.{ℕ, ◌+◌, ◌≤◌, ◌<◌, ◌≡◌, List, map, false, length, set}
use Rattle.record.specs.Base.{Str}
use Rattle.drafts.specs.Packing.{kept}
use Rattle.drafts.specs.Shelf.{forged, closed}
use Rattle.drafts.specs.Shelving.{rows_of, row_for, held_size, covering}
use Rattle.drafts.specs.declared.shelved.Shelf.{Shelf}

-- a stream and a pool within the limits of a record
pub record Short (stream pool : Str) : Type 0 where
  pub short : length stream ≤ 32768
  pub small : length pool ≤ 16384

-- a buffer has the room for a draft behind the places that stay
pub record Room (starts sizes : List ℕ) (held : Str) (end : ℕ) (stream pool : Str) : Type 0 where
  pub end_is : end ≡ length (kept (covering starts sizes) 0 held)
  pub fits : end + (length stream + length pool + 8) ≤ length held
  pub limits : Short stream pool

-- a name has its row, and no held place is outside the buffer or over another
pub record Settable (s : Shelf) (row : ℕ) (n held : Str) : Type 0 where
  pub row_is : row ≡ row_for n (rows_of s)
  pub row_in : row < 8
  pub valid : forged (length held) (rows_of s) ≡ false

-- the sizes of the places that stay, and where they end once they are closed up
pub record Behind (s : Shelf) (row : ℕ) (n held : Str) (sizes : List ℕ) (end : ℕ) : Type 0 where
  pub settable : Settable s row n held
  pub sizes-are : sizes ≡ set (map held_size (rows_of s)) row 0
  pub end_is : end ≡ length (closed n (rows_of s) held)
  pub eight : length s.starts ≡ 8
