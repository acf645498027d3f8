-- What packing leaves in its buffers, and the tables it is lent. Assumes nothing.
use Rattle.std.specs.Prelude.{ℕ, ◌+◌, ◌≤◌, ◌≡◌, List, length}
use Rattle.record.specs.Base.{Str}
use Rattle.record.specs.Fill.{joined}
use Rattle.record.specs.Write.{Puts}
use Rattle.record.specs.Marks.{Clear}
use Rattle.drafts.specs.Packing.{packed_commands, packed_pool}
use Rattle.drafts.specs.declared.pack.Ends.{Ends}

-- a mark for each byte of a pool, a rank for each place of it
pub record Desk (marks ranks pool : List ℕ) (base : ℕ) : Type 0 where
  pub clear : Clear marks
  pub marks-long : length marks ≡ length pool
  pub ranks-long : length ranks ≡ length pool + 1
  pub short : length pool ≤ 16384
  pub low : base ≤ 16384

-- where the first commands and the first texts are put
abbrev pub front : Ends
front = record { stream = 0; pool = 0 }

-- the commands at these places and their texts, each put behind what is there; starts count from the front of the texts
pub record Packed (s p : Str) (ps : List ℕ) (at : Ends) (out after words left : Str) (r : Ends) : Type 0 where
  pub commands : Puts out at.stream (joined (packed_commands at.pool s p ps)) after r.stream
  pub texts : Puts words at.pool (packed_pool s p ps) left r.pool
