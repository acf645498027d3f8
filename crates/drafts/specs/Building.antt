-- The result of an edit as the code builds it. Assumes nothing.
use Rattle.std.specs.Prelude.{ℕ}
use Rattle.record.specs.Base.{Str}
use Rattle.record.specs.Write.{Puts}
use Rattle.drafts.specs.Packing.{packed_commands, packed_pool, stream_of}
use Rattle.drafts.specs.Parts.{part, after_part}
use Rattle.drafts.specs.Code.{chosen}
use Rattle.drafts.specs.declared.pack.Ends.{Ends}

-- what is left of a draft without the commands from one place up to another
unfoldable pub rest_stream : Str → ℕ → ℕ → Str
rest_stream b i j = stream_of (packed_commands 0 (part b) (part (after_part b)) (chosen (part b) i j))

unfoldable pub rest_pool : Str → ℕ → ℕ → Str
rest_pool b i j = packed_pool (part b) (part (after_part b)) (chosen (part b) i j)

-- a stream and a pool, each put at the front of its buffer
pub record Built (s p out words after left : Str) (r : Ends) : Type 0 where
  pub stream : Puts out 0 s after r.stream
  pub pool : Puts words 0 p left r.pool
