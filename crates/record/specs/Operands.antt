-- The operands of a command (01, Record commands), at a place of the bytes from the command on. A byte past the end counts as 0. Assumes nothing.
use Rattle.std.specs.Prelude.{ℕ, ◌+◌, List, Bool, cond, get_or, eqb, Option, Some, None}
use Rattle.record.specs.Le.{u16_at, u32_at}
use Rattle.record.specs.declared.text.Text.{Text}

-- 01's T: the start, two bytes, and the length, one
unfoldable pub text_at : List ℕ → ℕ → Text
text_at s at = record { start = u16_at s at; len = get_or s (at + 2) 0 }

-- 01's O: FFFF hex with the length 0 is an absent text
unfoldable pub opt_text : Text → Option Text
opt_text t = cond (eqb t.start 65535) (cond (eqb t.len 0) None (Some t)) (Some t)

unfoldable pub opt_text_at : List ℕ → ℕ → Option Text
opt_text_at s at = opt_text (text_at s at)

-- 01's F
unfoldable pub flag_at : List ℕ → ℕ → Bool
flag_at s at = eqb (get_or s at 0) 1

-- 01's N: a flag, and four bytes
unfoldable pub opt_number_at : List ℕ → ℕ → Option ℕ
opt_number_at s at = cond (eqb (get_or s at 0) 0) None (Some (u32_at s (at + 1)))
