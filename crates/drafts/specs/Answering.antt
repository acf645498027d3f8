-- The answers of the code as the definition's, and what is known once draft and copy are read. Assumes nothing.
use Rattle.std.specs.Prelude.{ℕ, ◌≤◌, ◌≡◌, ⊤, Result, Ok, Err, List, length}
use Rattle.record.specs.Base.{Str}
use Rattle.record.specs.Scalars.{Scalar}
use Rattle.record.specs.Reading.{Rec, schema_of, read, reading}
use Rattle.record.specs.declared.refusal.Refusal.{Refusal}
use Rattle.record.specs.declared.refusal.Side.TheVariants.{Released}
use Rattle.drafts.specs.Parts.{held_rec, read_held}
use Rattle.drafts.specs.Edits.{Edited, refused, Edit, edit, count}
use Rattle.drafts.specs.Shelf.{brought_from}
use Rattle.drafts.specs.Counted.{Legible}
use Rattle.drafts.specs.declared.saying.DraftAnswer.{DraftAnswer}

-- an answer with the draft's buffer afterwards
abbrev pub edited_as : DraftAnswer → Str → Edited
edited_as r b = record {
  number = r.answer.number;
  side = r.answer.side;
  place = r.answer.place;
  len = r.answer.len;
  changed = r.changed;
  buffer = b;
}

pub record Says (r : DraftAnswer) (f : Str → Edited) : Type 0 where
  pub is : (b : Str) → edited_as r b ≡ f b

-- draft and copy can be read
pub record Both (w : List Scalar) (b : Str) (copy : Rec) : Type 0 where
  pub now : read_held w b ≡ read (schema_of (held_rec w b))
  pub was : reading Released copy ≡ read (schema_of copy)
  pub held : Legible (held_rec w b)
  pub kept : Legible copy
  pub small : length (held_rec w b).pool ≤ 16384

-- the draft, or else the copy, is refused
pub record Shut (w : List Scalar) (b : Str) (copy : Rec) (side : ℕ) (n : Refusal) (p : ℕ) : Type 0 where
  pub edits : (k : ℕ) (e : Edit) → edit w copy k b e ≡ refused side n p k b
  pub counts : count w copy b ≡ refused side n p 0 b
  pub backs : (d : Str) → brought_from w copy d b ≡ refused side n p 0 d

abbrev pub Opened : Type 0
Opened = Result ⊤ (ℕ × Refusal × ℕ)

abbrev pub Opens : List Scalar → Str → Rec → Opened → Type 0
Opens w b copy (Ok _) = Both w b copy
Opens w b copy (Err (side, n, p)) = Shut w b copy side n p
