-- An addition judged by the reading of a record and the first command out of an addition's shape, as the code has it. Assumes nothing.
use Rattle.std.specs.Prelude.{ℕ, ◌+◌, ◌-◌, ◌≡◌, Bool, true, false, ◌&&◌, cond, length, eqb, Result, Ok, Err, ⊤}
use Rattle.record.specs.Base.{Str}
use Rattle.record.specs.Commands.{start}
use Rattle.record.specs.Reading.{Parsed}
use Rattle.record.specs.Read.{outcome_of, parsed_from}
use Rattle.record.specs.Seek.{after_at}
use Rattle.record.specs.declared.command.Cursor.{Cursor}
use Rattle.record.specs.declared.refusal.Side.TheVariants.{Current}
use Rattle.record.specs.declared.refusal.Refusal.{Refusal}
use Rattle.record.specs.declared.refusal.Refusal.TheVariants as R
use Rattle.drafts.specs.Addition.{parse_addition}

-- 2 and 1 go before 3
abbrev pub is_first : Refusal → Bool
is_first R.Cut = true
is_first R.Unknown = true
is_first R.Misplaced = false
is_first R.Outside = false
is_first R.Missing = false
is_first R.Flag = false
is_first R.Letter = false
is_first R.Long = false
is_first R.Vast = false

abbrev pub is_vast : Refusal → Bool
is_vast R.Cut = false
is_vast R.Unknown = false
is_vast R.Misplaced = false
is_vast R.Outside = false
is_vast R.Missing = false
is_vast R.Flag = false
is_vast R.Letter = false
is_vast R.Long = false
is_vast R.Vast = true

-- what a reading says of the commands alone: 9 comes after all of them
abbrev pub commands_read : Result ⊤ (Refusal × ℕ) → Result ⊤ (Refusal × ℕ)
commands_read (Ok tt) = Ok tt
commands_read (Err (n, p)) = cond (is_vast n) (Ok tt) (Err (n, p))

abbrev pub refused_at : Result ⊤ (Refusal × ℕ) → ℕ → Bool
refused_at (Ok tt) at = false
refused_at (Err (n, p)) at = eqb p at

-- the place after the command at a place; 0 where the reading or the commands end
unfoldable pub onward : Str → Result ⊤ (Refusal × ℕ) → ℕ → ℕ
onward s o at = cond (refused_at o at) 0 (after_at s at)

-- a command out of shape is 3, unless the reading refuses it by 2 or 1
abbrev pub misfit : Result ⊤ (Refusal × ℕ) → ℕ → Result ⊤ (Refusal × ℕ)
misfit (Ok tt) at = Err (R.Misplaced, at)
misfit (Err (n, p)) at = cond (is_first n && eqb p at) (Err (n, p)) (Err (R.Misplaced, at))

-- an addition's commands judged from a cursor on
unfoldable pub addition_from : Str → Str → Cursor → Parsed
addition_from s p c = parse_addition (length s + 1 - c.at) s p c

-- what the commands of a current record come to, as those of an addition
pub record Shaped (s : Str) (plain r : Result ⊤ (Refusal × ℕ)) : Type 0 where
  pub so : (p : Str) → plain ≡ outcome_of (parsed_from Current s p start) → r ≡ outcome_of (addition_from s p start)
