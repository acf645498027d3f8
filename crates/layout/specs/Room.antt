-- How long the lent tables have to be, by the length of the stream: a type and a constant take four bytes of it at least, a field 33.
-- Assumes nothing.
use Rattle.std.specs.Prelude.{List, ℕ, ◌/◌, ◌≤◌, ◌<◌, length}
use Rattle.record.specs.Base.{Str}

-- a table of types or of constants
abbrev pub Room : Str → List ℕ → Type 0
Room s t = length s / 4 ≤ length t

-- a table of the sizes of fields
abbrev pub SizesRoom : Str → List ℕ → Type 0
SizesRoom s z = length s / 33 < length z
