-- What the code's reading of a record answers: the outcome of Reading, and that an accepted record's sizes are exact. Assumes nothing.
use Rattle.std.specs.Prelude.{◌≡◌, ◌+◌, ◌-◌, ◌≤◌, length, Result, Ok, Err, ⊤, ℕ}
use mathlib.Core.List.{Memᴰ}
use Rattle.record.specs.Base.{Str}
use Rattle.record.specs.Commands.{commands_at}
use Rattle.record.specs.Shapes.{FieldLayout, places, limit, capped}
use Rattle.record.specs.Reading.{Rec, schema_of, Opened, opened, Reading, read, refuse, Parsed, ok, bad, parse, reading}
use Rattle.record.specs.declared.command.Cursor.{Cursor}
use Rattle.record.specs.declared.refusal.Side.{Side}
use Rattle.record.specs.declared.refusal.Refusal.{Refusal}

-- the commands judged from a cursor on
unfoldable pub parsed_from : Side → Str → Str → Cursor → Parsed
parsed_from side s p c = parse (length s + 1 - c.at) side s p c

unfoldable pub outcome_of : Parsed → Result ⊤ (Refusal × ℕ)
outcome_of (ok ps) = Ok tt
outcome_of (bad n p) = Err (n, p)

-- an answer as a reading: a record that can be read is read as its schema
abbrev pub reading_of : Rec → Result ⊤ (Refusal × ℕ) → Reading
reading_of r (Ok tt) = read (schema_of r)
reading_of r (Err (n, p)) = refuse n p

-- a field that ends within the limit: its offset and its size as far as the limit are exact
pub record Exactly (f : FieldLayout) : Type 0 where
  pub ends : f.offset + f.size ≤ limit
  pub offset : capped f.offset ≡ f.offset
  pub size : capped f.size ≡ f.size

-- every field of every type is such
abbrev pub Exact : Rec → Type 0
Exact r =
    (t : Opened) → Memᴰ t (opened r.stream r.pool (commands_at r.stream 0))
    → (f : FieldLayout) → Memᴰ f (places (schema_of r) 0 t.fields) → Exactly f

pub record Read (side : Side) (r : Rec) (o : Result ⊤ (Refusal × ℕ)) : Type 0 where
  pub answer : reading_of r o ≡ reading side r
  pub exact : o ≡ Ok tt → Exact r
