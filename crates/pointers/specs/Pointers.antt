-- The check of a current record's pointers: 02, W-212, "Pointers that point somewhere". Rule says it without a walk. Assumes nothing.
use Rattle.std.specs.Prelude.{◌≡◌, List, [], ◌∷◌, Bool, true, false, ℕ, drop, Option, Some, None}
use Rattle.record.specs.Base.{Str, is_some}
use Rattle.record.specs.Schema.{Field}
use Rattle.record.specs.Steps.{struct_in, family_in}
use Rattle.record.specs.Seek.{places_of}
use Rattle.record.specs.Kind.{kind_of}
use Rattle.record.specs.Commands.{field_at}
use Rattle.record.specs.Lists.{field_of}
use Rattle.record.specs.Owner.{Types, types_in, referenced}
use Rattle.record.specs.References.{types_at}
use Rattle.record.specs.Reading.{Rec, Reading, read, refuse, reading}
use Rattle.record.specs.declared.kind.Kind.{Kind}
use Rattle.record.specs.declared.kind.Kind.TheVariants as K
use Rattle.record.specs.declared.seek.Between.TheVariants.{Anything}
use Rattle.record.specs.declared.refusal.Side.TheVariants.{Current}
use Rattle.layout.specs.Answer.{Answer, refusal_of}
use Rattle.layout.specs.declared.answer.Answer as D
use Rattle.pointers.specs.declared.rule.Pointee.{Pointee}
use Rattle.pointers.specs.declared.rule.Pointee.TheVariants.{ToStruct, ToFamily, Unjudged}

-- what a pointer of a kind must name. 02: "a struct_ptr, struct_array_ptr or struct_ptr_array_ptr must name a declared structure, a tagged_fam_ptr
-- a declared family; simple_fam_ptr and the rest are not judged"
abbrev pub pointee_of : Kind → Pointee
pointee_of K.StructPtr = ToStruct
pointee_of K.StructArrayPtr = ToStruct
pointee_of K.StructPtrArrayPtr = ToStruct
pointee_of K.TaggedFamPtr = ToFamily
pointee_of K.SimpleFamPtr = Unjudged
pointee_of K.Scalar = Unjudged
pointee_of K.Enum = Unjudged
pointee_of K.TypeAlias = Unjudged
pointee_of K.Bitfield = Unjudged
pointee_of K.InlineArray = Unjudged
pointee_of K.InlineArray2d = Unjudged
pointee_of K.CstrPtr = Unjudged
pointee_of K.OpaquePtr = Unjudged
pointee_of K.FnPtr = Unjudged
pointee_of K.Padding = Unjudged
pointee_of K.Text = Unjudged
pointee_of K.Other = Unjudged

-- 02: "a declared structure", wherever in the record it stands
unfoldable pub is_struct : Types → Str → Bool
is_struct t n = is_some (struct_in n t.structs)

-- 02: "a declared family"
unfoldable pub is_family : Types → Str → Bool
is_family t n = is_some (family_in n t.families)

-- by whether a name is declared as what it must be, and as the other of the two. 02: "59 names neither a structure nor a family, 60 names only the
-- other of the two"
unfoldable pub name_fault : Bool → Bool → Option ℕ
name_fault true other = None
name_fault false true = Some 60
name_fault false false = Some 59

-- 02: "A pointer with no name counts as naming nothing"
unfoldable pub pointee_fault : Types → Pointee → Option Str → Option ℕ
pointee_fault t Unjudged o = None
pointee_fault t ToStruct None = Some 59
pointee_fault t ToFamily None = Some 59
pointee_fault t ToStruct (Some n) = name_fault (is_struct t n) (is_family t n)
pointee_fault t ToFamily (Some n) = name_fault (is_family t n) (is_struct t n)

-- the number of a field's error, if it has one. 02: "By referenced_type"
unfoldable pub field_fault : Types → Field → Option ℕ
field_fault t f = pointee_fault t (pointee_of (kind_of f.kind)) (referenced f)

-- the field whose command stands at a place; its plugin key is not looked at
abbrev pub field_here : Str → Str → ℕ → Field
field_here s p at = field_of p (field_at (drop at s)) None

-- the places of the field commands, in the order of the stream
abbrev pub field_places : Str → List ℕ
field_places s = places_of s Anything 11 0

abbrev pub accepted : Answer
accepted = record { number = 0; side = 0; place = 0; len = 0; text = [] }

-- the error of the field at a place, or else what the fields after it give
unfoldable pub or_next : ℕ → Option ℕ → Answer → Answer
or_next at None a = a
or_next at (Some n) a = record { number = n; side = 0; place = at; len = 0; text = [] }

-- the first error among the fields at some places. 02: "gives the place of the first that does"
unfoldable pub first_fault : Types → Str → Str → List ℕ → Answer
first_fault t s p [] = accepted
first_fault t s p (at ∷ ps) = or_next at (field_fault t (field_here s p at)) (first_fault t s p ps)

-- 02: "both after all record refusals"
unfoldable pub pointers_read : Rec → Reading → Answer
pointers_read r (refuse x at) = refusal_of Current x at
pointers_read r (read c) = first_fault (types_in c) r.stream r.pool (field_places r.stream)

-- 02: "a check of one current record"
unfoldable pub pointers : Rec → Answer
pointers r = pointers_read r (reading Current r)

-- what the code answers -------------------------------------------------------------------------------------------------------------------

-- the first error among the fields from a place on, under the names that the whole record declares
unfoldable pub fault_from : Str → Str → ℕ → Answer
fault_from s p at = first_fault (types_at s p) s p (places_of s Anything 11 at)

-- a call that lends no buffer answers this, and there is no text
pub record Answers (a : Answer) (r : D.Answer) : Type 0 where
  pub number : r.number ≡ a.number
  pub side : r.side ≡ a.side
  pub place : r.place ≡ a.place
  pub len : r.len ≡ a.len
  pub no_text : a.text ≡ []
