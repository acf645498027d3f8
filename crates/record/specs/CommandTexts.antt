-- The texts of commands: every text among the operands, also one that its command does not use. This project's own words. Assumes nothing.
use Rattle.std.specs.Prelude.{ℕ, ◌+◌, List, [], ◌∷◌, Bool, ◌||◌, cond, get_or, drop, eqb, Option, Some, None}
use Rattle.record.specs.Base.{Str, with_some}
use Rattle.record.specs.Operands.{opt_text_at}
use Rattle.record.specs.Commands.{operands, wide}
use Rattle.record.specs.declared.text.Text.{Text}

-- 01's F, N, W and V; every other operand is a text
unfoldable pub no_text : ℕ → Bool
no_text o = eqb o 70 || eqb o 78 || eqb o 87 || eqb o 86

-- the texts among the operands of these letters
unfoldable pub texts_from : Str → ℕ → Str → List Text
texts_from x i [] = []
texts_from x i (o ∷ os) =
    let rest = texts_from x (i + wide o) os in
    cond (no_text o) rest (with_some (opt_text_at x i) rest)

unfoldable pub texts_with : Str → Option Str → List Text
texts_with x None = []
texts_with x (Some os) = texts_from x 1 os

-- the texts of the command at a place
unfoldable pub texts_at : Str → ℕ → List Text
texts_at s at = texts_with (drop at s) (operands (get_or s at 0))
