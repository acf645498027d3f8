-- What 02, W-213, asks of the bytes of a pair. Assumes nothing.
use Rattle.std.specs.Prelude.{◌≡◌, ℕ, ◌+◌, ◌≤◌, length}
use mathlib.Core.List.{◌++◌, Memᴰ}
use Rattle.record.specs.Base.{Str}
use Rattle.record.specs.Scalars.{built_in}
use Rattle.record.specs.Schema.{Schema, Struct}
use Rattle.record.specs.Reading.{rec, read, reading}
use Rattle.record.specs.declared.refusal.Side.TheVariants.{Current, Released}
use Rattle.definition.specs.Answer.{check}
use Rattle.load.specs.Draws.{draw}
use Rattle.load.specs.Load.{part}

-- 02: "The pair is written as the check program's four parts .. the two records are always readable, and the wanted outcome .. is met": no part is
-- longer than 01 lets it be, and the check gives the outcome wherever its message has room
pub record Met (outcome seed : ℕ) (pair : Str) : Type 0 where
  pub stream : Str
  pub pool : Str
  pub past : Str
  pub old : Str
  pub parts : pair ≡ part stream ++ (part pool ++ (part past ++ part old))
  pub short : (length stream ≤ 32768) × (length pool ≤ 32768) × (length past ≤ 32768) × (length old ≤ 32768)
  pub now : Schema
  pub was : Schema
  pub now-read : reading Current (rec stream pool built_in) ≡ read now
  pub was_read : reading Released (rec past old built_in) ≡ read was
  pub number : (room : ℕ) → 1024 ≤ room → (check room (rec stream pool built_in) (rec past old built_in)).number ≡ outcome
  -- 02: "The first draw, below 8, plus one is the number of structures, the second, below 16, plus two the fields of each, in the released record"
  pub structs : length was.structs ≡ draw seed 1 8 + 1
  pub fields : (t : Struct) → Memᴰ t was.structs → length t.fields ≡ draw seed 2 16 + 2
