-- What the owner call answers, by 01, What a check returns: the owner of a name of a current record. Assumes nothing.
use Rattle.std.specs.Prelude.{◌≡◌, Option, Some, None, Result, Ok, Err, ℕ}
use Rattle.record.specs.Base.{Str}
use Rattle.record.specs.Stretch.{text_of}
use Rattle.record.specs.Refusals.{refusal_number}
use Rattle.record.specs.Reading.{Rec, Reading, read, refuse, reading}
use Rattle.record.specs.Owner.{owner_of}
use Rattle.record.specs.References.{types_at}
use Rattle.record.specs.Ownership.{owner_at}
use Rattle.record.specs.declared.refusal.Side.TheVariants.{Current}
use Rattle.layout.specs.declared.owner.OwnerFields.{OwnerFields}
use Rattle.record.specs.declared.text.Text.{Text}
use Rattle.record.specs.declared.refusal.Refusal.{Refusal}

-- the owner's name as a stretch, or none; or the record's refusal with its place
abbrev pub OwnerAnswer : Type 0
OwnerAnswer = Result (Option Text) (Refusal × ℕ)

-- 01: the owner's name as the stretch its root's 08 gives, or none, or the record's refusal
abbrev pub owner_read : Rec → Str → Reading → OwnerAnswer
owner_read r n (read s) = Ok (owner_at r.stream r.pool n)
owner_read r n (refuse x p) = Err (x, p)

unfoldable pub owner_asked : Rec → Str → OwnerAnswer
owner_asked r n = owner_read r n (reading Current r)

-- the exported fields: the refusal's number and place; 1 for an owner, and the stretch of its name
abbrev pub owner_fields : OwnerAnswer → OwnerFields
owner_fields (Ok None) = record { number = 0; place = 0; owned = 0; start = 0; len = 0 }
owner_fields (Ok (Some t)) = record { number = 0; place = 0; owned = 1; start = t.start; len = t.len }
owner_fields (Err (x, p)) = record { number = refusal_number x; place = p; owned = 0; start = 0; len = 0 }

-- the name that is answered
abbrev pub owner_named : Str → OwnerAnswer → Option Str
owner_named p (Ok None) = None
owner_named p (Ok (Some t)) = Some (text_of p t)
owner_named p (Err (x, at)) = None

abbrev pub name_read : Rec → Str → Reading → Option Str
name_read r n (read s) = owner_of (types_at r.stream r.pool) n
name_read r n (refuse x p) = None

-- the answer, and that its stretch reads as the owner's name
pub record OwnerAsked (r : Rec) (n : Str) (a : OwnerAnswer) : Type 0 where
  pub answer : a ≡ owner_asked r n
  pub name : owner_named r.pool a ≡ name_read r n (reading Current r)
