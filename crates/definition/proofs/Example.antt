-- A chain of records, as bytes, that meets every premise of demand 3, and what demand 3 says of it. Assumes nothing.
use mathlib.Core.Path.{◌≡◌, refl, sym, subst}
use mathlib.Core.List.Memᴰ
use mathlib.Core.List.{List, [], ◌∷◌, ◌++◌}
use mathlib.Core.Bool.{Bool, true, false, cond}
use Prim.Native.Nat.{ℕ, ◌-◌, ◌^◌}
use Prim.Native.String.{String}
use lib.Dec.{eqb}
use Rattle.record.specs.Base.{Str, bytes, with_some}
use Rattle.record.specs.Schema.{Schema}
use Rattle.record.specs.Kind.{kind_words}
use Rattle.record.specs.Shapes.{FieldLayout}
use Rattle.record.specs.Reading.{Rec, read, reading, schema_of}
use Rattle.record.specs.declared.refusal.Side.TheVariants.{Released}
use Rattle.layout.specs.Layout.{types}
use Rattle.definition.specs.Answer.{check}
use Rattle.definition.specs.Chain.{HasValue, HasMember, HasField, Holds, Laid, Kinds, slots_of, Names, Governed}
use Rattle.definition.specs.Offers.{Offer, chain, last_of, last_accepted, SchemaHas, All, KeptIn, SameIn}
use Rattle.definition.specs.Pass.{all_of}
use Rattle.definition.proofs.Bytes.{demand-3}
use Rattle.definition.proofs.ByteEdges.{variant, begun, gap, new, entry, whole, written, says}
use Rattle.definition.proofs.Premises.{kinded, kinded-is, named, named-is, held, held-is, governed, governed-is, laid-field, sound, all_sound}

-- the chain ----------------------------------------------------------------------------------------------------------------------------------

-- an enum, a bit field, a root over a type, and a family
pub first : Rec
first = written (whole (begun "0.8.0" 3 gap []))

-- the padding's byte is a field, under the next number and with its entry
pub raised : Rec
raised = written (whole (begun "0.9.0" 4 new entry))

-- the same under the same number, with one variant more
pub later : Rec
later = written (whole (begun "0.10.0" 4 new (variant "W" ++ entry)))

-- the raised record again, which is no later release, without room for the message; and the later one
pub rest : List Offer
rest = record { offered = raised; room = 0 } ∷ record { offered = later; room = 0 } ∷ []

-- before these the raised record's layout under the old number, the raised record without its end, and the raised record
pub offers : List Offer
offers =
    record { offered = written (whole (begun "0.9.0" 3 new [])); room = 65536 }
    ∷ record { offered = written (begun "0.9.0" 4 new entry); room = 65536 }
    ∷ record { offered = raised; room = 0 }
    ∷ rest

-- the number that each offer gets, against the last one accepted
pub numbers : Rec → List Offer → List ℕ
numbers last [] = []
numbers last (o ∷ os) = let n = (check o.room o.offered last).number in n ∷ numbers (cond (eqb n 0) o.offered last) os

pub the-numbers : numbers first offers ≡ 43 ∷ 1 ∷ 0 ∷ 10 ∷ 0 ∷ []
unfolding numbers first raised later rest offers says
the-numbers = refl

pub the-chain : chain first offers ≡ raised ∷ later ∷ []
unfolding chain first raised later rest offers says
the-chain = refl

-- the same chain, from its raised record on
pub the_rest : chain raised rest ≡ later ∷ []
unfolding chain raised later rest says
the_rest = refl

the_last : last_accepted raised rest ≡ later
unfolding last_accepted last_of
the_last = rw the_rest

-- the premises -------------------------------------------------------------------------------------------------------------------------------

-- the root, its constant, and a type under it
abbrev pub root : Str
root = bytes "head"

abbrev pub constant : Str
constant = bytes "GEN"

abbrev pub type : Str
type = bytes "tile"

-- the first record and the accepted ones
records : List Rec
records = first ∷ raised ∷ later ∷ []

kinds : All (SchemaHas Kinds) records
unfolding kinded kind_words all_of records first raised later schema_of says
kinds = all_sound Kinds kinded kinded-is records refl

names : All (SchemaHas Names) records
unfolding named slots_of with_some all_of records first raised later schema_of says
names = all_sound Names named named-is records refl

under : All (SchemaHas (Governed root constant type)) records
unfolding governed all_of records first raised later schema_of says
under = all_sound (Governed root constant type) (governed root constant type) (governed-is root constant type) records refl

of-accepted : (P : Rec → Type 0) → All P records → All P (chain first offers)
unfolding records
of-accepted P h = subst (All P) (sym the-chain) (λ r m. h r (Memᴰ.tail m))

of-rest : (P : Rec → Type 0) → All P records → All P (chain raised rest)
unfolding records
of-rest P h = subst (All P) (sym the_rest) (λ r m. h r (Memᴰ.tail (Memᴰ.tail m)))

pub first-kinds : SchemaHas Kinds first
unfolding records
first-kinds = kinds first (Memᴰ.head refl)

pub accepted-kinds : All (SchemaHas Kinds) (chain first offers)
accepted-kinds = of-accepted (SchemaHas Kinds) kinds

pub accepted-names : All (SchemaHas Names) (chain first offers)
accepted-names = of-accepted (SchemaHas Names) names

pub accepted-under : All (SchemaHas (Governed root constant type)) (chain first offers)
accepted-under = of-accepted (SchemaHas (Governed root constant type)) under

pub rest-names : All (SchemaHas Names) (chain raised rest)
rest-names = of-rest (SchemaHas Names) names

pub rest_under : All (SchemaHas (Governed root constant type)) (chain raised rest)
rest_under = of-rest (SchemaHas (Governed root constant type)) under

pub first_read : reading Released first ≡ read (schema_of first)
unfolding first schema_of says
first_read = refl

pub raised-read : reading Released raised ≡ read (schema_of raised)
unfolding raised schema_of says
raised-read = refl

pub first_holds : Holds (schema_of first).constants constant 3
unfolding held first schema_of says
first_holds = held-is (schema_of first).constants constant 3 refl

pub raised-holds : Holds (schema_of raised).constants constant 4
unfolding held raised schema_of says
raised-holds = held-is (schema_of raised).constants constant 4 refl

later-holds : Holds (schema_of later).constants constant 4
unfolding held later schema_of says
later-holds = held-is (schema_of later).constants constant 4 refl

-- a field's name, offset, size and description, and whether it is padding
at : String → ℕ → ℕ → String → Bool → FieldLayout
at n o z d p = record { name = bytes n; offset = o; size = z; described = bytes d; padding = p }

-- the type's fields, with this last one
fields_with : FieldLayout → List FieldLayout
fields_with f = at "n" 0 2 "scalar u16" false ∷ at "skip" 2 1 "scalar u8" false ∷ f ∷ []

pub first-fields : List FieldLayout
first-fields = fields_with (at "gap" 3 1 "padding" true)

pub raised-fields : List FieldLayout
raised-fields = fields_with (at "new" 3 1 "scalar u8" false)

pub first-laid : Laid (types (schema_of first)) type first-fields
unfolding first-fields fields_with at first schema_of says
first-laid = record { found = record { name = type; fields = first-fields }; is_found = refl; is-fields = refl }

pub raised-laid : Laid (types (schema_of raised)) type raised-fields
unfolding raised-fields fields_with at raised schema_of says
raised-laid = record { found = record { name = type; fields = raised-fields }; is_found = refl; is-fields = refl }

-- the first sentence -------------------------------------------------------------------------------------------------------------------------

pub kept : KeptIn (last_accepted first offers) (schema_of first)
kept = (demand-3 first offers).nothing-lost first-kinds accepted-kinds (schema_of first) first_read

-- the first record holds a value, a member and a field
first-value : HasValue (schema_of first).enums (bytes "e") (bytes "a") (2 ^ 64 - 3)
unfolding first schema_of says
first-value = record {
  parent = _;
  is-parent = Memᴰ.head refl;
  parent-name = refl;
  child = _;
  is-child = Memᴰ.head refl;
  child-name = refl;
  child-number = refl;
}

first_member : HasMember (schema_of first).bitfields (bytes "bits") (bytes "m") 2 1
unfolding first schema_of says
first_member = record {
  parent = _;
  is-parent = Memᴰ.head refl;
  parent-name = refl;
  child = _;
  is-child = Memᴰ.head refl;
  child-name = refl;
  child-bit = refl;
  child-width = refl;
}

first_field : HasField (types (schema_of first)) type (bytes "skip") 2 1 (bytes "scalar u8")
unfolding first-fields fields_with at
first_field =
    laid-field (types (schema_of first)) type first-fields first-laid (at "skip" 2 1 "scalar u8" false) (Memᴰ.tail (Memᴰ.head refl)) refl

-- so the last one accepted holds them
pub last-value : HasValue kept.schema.enums (bytes "e") (bytes "a") (2 ^ 64 - 3)
last-value = kept.kept.values first-value

pub last-member : HasMember kept.schema.bitfields (bytes "bits") (bytes "m") 2 1
last-member = kept.kept.members first_member

pub last-field : HasField (types kept.schema) type (bytes "skip") 2 1 (bytes "scalar u8")
last-field = kept.kept.fields first_field

-- the second sentence ------------------------------------------------------------------------------------------------------------------------

-- of the whole chain, where the last number is another one
pub same : SameIn (last_accepted first offers) constant type 3 first-fields
same =
    (demand-3 first offers).nothing-moved accepted-names root constant type accepted-under (schema_of first) first_read 3 first_holds first-fields
    first-laid

-- of the chain from its raised record on, where the last number is the same
pub same-since : SameIn (last_accepted raised rest) constant type 4 raised-fields
same-since =
    (demand-3 raised rest).nothing-moved rest-names root constant type rest_under (schema_of raised) raised-read 4 raised-holds raised-fields
    raised-laid

pub last-holds : Holds same-since.schema.constants constant 4
last-holds =
    sound (λ (s : Schema). Holds s.constants constant 4) later later-holds same-since.schema
    (subst (λ (r : Rec). reading Released r ≡ read same-since.schema) the_last same-since.is_read)

-- so the last one accepted lays the type out as the raised one does
pub last-laid : Laid (types same-since.schema) type raised-fields
last-laid = same-since.laid last-holds
