-- What a command says (02, W-210: "All other commands keep order and content"): its number and its operands, each text by its bytes
-- in the pool, any other operand by its own bytes. Assumes nothing.
use Rattle.std.specs.Prelude.{ℕ, zero, suc, ◌+◌, List, [], ◌∷◌, map, cond, get_or, drop, eqb, Option, Some, None}
use Rattle.record.specs.Base.{Str}
use Rattle.record.specs.Stretch.{text_of}
use Rattle.record.specs.Operands.{text_at, opt_text_at}
use Rattle.record.specs.Commands.{operands, wide, commands_at}
use Rattle.record.specs.CommandTexts.{no_text}
use Rattle.record.specs.Lists.{opt_of}
use Rattle.record.specs.Reading.{Rec}

pub data Operand : Type 0 where
  text : Str → Operand
  maybe : Option Str → Operand
  plain : Str → Operand

pub record Content : Type 0 where
  pub number : ℕ
  pub operands : List Operand

-- so many bytes from a place on
unfoldable pub bytes_at : Str → ℕ → ℕ → Str
bytes_at x i zero = []
bytes_at x i (suc n) = get_or x i 0 ∷ bytes_at x (i + 1) n

-- the operand of a letter at a place of the command's bytes; a T is there, an O may be absent
unfoldable pub operand_at : Str → Str → ℕ → ℕ → Operand
operand_at p x i o =
    cond (no_text o) (plain (bytes_at x i (wide o)))
    (cond (eqb o 84) (text (text_of p (text_at x i))) (maybe (opt_of p (opt_text_at x i))))

unfoldable pub operands_at : Str → Str → ℕ → Str → List Operand
operands_at p x i [] = []
operands_at p x i (o ∷ os) = operand_at p x i o ∷ operands_at p x (i + wide o) os

unfoldable pub operands_with : Str → Str → Option Str → List Operand
operands_with p x None = []
operands_with p x (Some os) = operands_at p x 1 os

-- the command of a number, from the bytes that begin with it
unfoldable pub content_as : Str → Str → ℕ → Content
content_as p x b = record { number = b; operands = operands_with p x (operands b) }

unfoldable pub content_at : Str → Str → ℕ → Content
content_at s p at = content_as p (drop at s) (get_or s at 0)

-- what all commands of a record say, in order, 0F not among them
unfoldable pub contents_of : Rec → List Content
contents_of r = map (content_at r.stream r.pool) (commands_at r.stream 0)
