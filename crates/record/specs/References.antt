-- What a field refers to and whether a structure has a slot, as the code's look-ups answer them: referenced_type and slot_of of schema.rs, defined in
-- Owner. Assumes nothing.
use Rattle.std.specs.Prelude.{◌≡◌, List, Bool, ℕ, Option}
use Rattle.record.specs.Base.{Str}
use Rattle.record.specs.Schema.{Key}
use Rattle.record.specs.Lists.{opt_of, field_of}
use Rattle.record.specs.Steps.{structs_at, families_at}
use Rattle.record.specs.Index.{Indexed}
use Rattle.record.specs.Owner.{Types, referenced, has_slot}
use Rattle.record.specs.declared.command as D
use Rattle.record.specs.declared.text.Text.{Text}

-- the types of a record
abbrev pub types_at : Str → Str → Types
types_at s p = record { structs = structs_at s p 0; families = families_at s p 0 }

-- the answer is the name that a field refers to, whatever its plugin key
pub record Refers (p : Str) (f : D.Field.Field) (r : Option Text) : Type 0 where
  pub name : (k : Option Key) → opt_of p r ≡ referenced (field_of p f k)

-- the answer, where the index is the record's: whether the first structure of a name has slot text
pub record HasSlot (s p : Str) (x : List ℕ) (n : Str) (r : Bool) : Type 0 where
  pub is : Indexed s p x → r ≡ has_slot (types_at s p) n
