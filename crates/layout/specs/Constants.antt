-- The sorted table of a record's constants: the place of one command a name, in byte order of the names. The code's way to the map of constants in
-- layout.rs (of_schema, of_released). Assumes nothing.
use Rattle.std.specs.Prelude.{◌≡◌, List, map, ℕ, drop}
use Rattle.record.specs.Base.{Str}
use Rattle.record.specs.Schema.{Const}
use Rattle.record.specs.Commands.{constant_at}
use Rattle.record.specs.Lists.{constant_of}
use Rattle.record.specs.Steps.{constants_at}
use Rattle.layout.specs.Sorted.{sorted}

-- the constant whose command is at a place
unfoldable pub placed_constant : Str → Str → ℕ → Const
placed_constant s p at = constant_of p (constant_at (drop at s))

-- the table holds the record's constants: those at its places are the map by name
pub record ConstantsTable (s p : Str) (t : List ℕ) : Type 0 where
  pub constants : map (placed_constant s p) t ≡ sorted (λ (c : Const). c.name) (constants_at s p 0)
