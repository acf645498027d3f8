-- What the functions of the code have in their contracts. Assumes nothing.
use Rattle.std.specs.Prelude.{ℕ, zero, suc, ◌+◌, ◌-◌, ◌<◌, ◌≤◌, ◌≡◌, List, [], ◌∷◌, ◌++◌, Bool, not, cond, length, get_or, eqb, ltb, leb, Option, Some, None, Result, Ok, ⊤}
use Rattle.record.specs.Base.{Str, with_some}
use Rattle.record.specs.Scalars.{Scalar}
use Rattle.record.specs.Operands.{opt_text_at}
use Rattle.record.specs.Commands.{commands_at}
use Rattle.record.specs.Read.{reading_of, Exact}
use Rattle.record.specs.declared.text.Text.{Text}
use Rattle.record.specs.CommandTexts.{no_text}
use Rattle.drafts.specs.Parts.{held_rec, read_held}
use Rattle.drafts.specs.Packing.{le2, covered}
use Rattle.record.specs.declared.refusal.Refusal.{Refusal}

-- the reading of the record in a buffer
pub record HeldRead (w : List Scalar) (b : Str) (r : Result ⊤ (Refusal × ℕ)) : Type 0 where
  pub answer : reading_of (held_rec w b) r ≡ read_held w b
  pub exact : r ≡ Ok tt → Exact (held_rec w b)
  pub short : r ≡ Ok tt → length (held_rec w b).stream ≤ 32768
  pub small : r ≡ Ok tt → length (held_rec w b).pool ≤ 16384

-- no letters where there is no command
unfoldable pub or_none : Option Str → Str
or_none None = []
or_none (Some os) = os

-- the commands before a place
unfoldable pub up_to : ℕ → List ℕ → List ℕ
up_to e [] = []
up_to e (at ∷ ps) = cond (ltb at e) (at ∷ up_to e ps) []

-- starts -----------------------------------------------------------------------------------------------------------------------

-- a number of a table; past its end the last
unfoldable pub rank_at : List ℕ → ℕ → ℕ
rank_at t a = cond (ltb a (length t)) (get_or t a 0) (get_or t (length t - 1) 0)

-- a start moved by a table, behind base bytes; no start is above FFFF hex
unfoldable pub start_of : ℕ → List ℕ → ℕ → ℕ
start_of base t a = cond (leb (base + rank_at t a) 65535) (base + rank_at t a) 65535

-- a text's operand
unfoldable pub text_bytes : ℕ → ℕ → Str
text_bytes start len = le2 start ++ len ∷ []

-- marks --------------------------------------------------------------------------------------------------------------------------

-- the texts of one operand
unfoldable pub operand_texts : Str → ℕ → ℕ → List Text
operand_texts x i o = cond (no_text o) [] (with_some (opt_text_at x i) [])

-- every byte of these texts is marked, all others are as they were
pub record Marks (ts : List Text) (before after : List ℕ) : Type 0 where
  pub long : length after ≡ length before
  pub each : (i : ℕ) → i < length before → get_or after i 0 ≡ cond (covered ts i) 1 (get_or before i 0)

unfoldable pub is_marked : List ℕ → ℕ → Bool
is_marked l i = not (eqb (get_or l i 0) 0)

-- how many marks stand before a place
unfoldable pub marks_before : List ℕ → ℕ → ℕ
marks_before l zero = 0
marks_before l (suc a) = marks_before l a + cond (is_marked l a) 1 0

-- a table of those numbers
pub record Ranked (l t : List ℕ) : Type 0 where
  pub long : length t ≡ length l + 1
  pub each : (a : ℕ) → a ≤ length l → get_or t a 0 ≡ marks_before l a

-- the commands before a place, and those from another on
unfoldable pub chosen : Str → ℕ → ℕ → List ℕ
chosen s until from = up_to until (commands_at s 0) ++ commands_at s from
