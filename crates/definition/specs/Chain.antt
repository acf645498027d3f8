-- What a record holds, the premises of demand 3 (01, Premises of the chain), and what demand 3 says of two schemas. Assumes nothing.
use Rattle.std.specs.Prelude.{◌≡◌, false, ℕ, Some}
use mathlib.Core.List.{List, [], ◌∷◌, map, Memᴰ}
use Rattle.record.specs.Base.{Str, with_some}
use Rattle.record.specs.Schema.{Schema, integer, Const, Enum, EnumValue, BitField, Member, Field, Struct, Family, Variant}
use Rattle.record.specs.Steps.{constant_in}
use Rattle.record.specs.Kind.{kind_words}
use Rattle.record.specs.Shapes.{FieldLayout}
use Rattle.record.specs.Owner.{types_in, owner_of}
use Rattle.layout.specs.Layout.{TypeLayout, types, type_in}
use Rattle.definition.specs.Bitfields.{member_width}
use Rattle.record.specs.Versioned.{slot_order}
use Rattle.definition.specs.Coverage.{owning}

-- what a record holds -------------------------------------------------------------------------------------------------------------

-- an enum of this name with a value of this name and number
pub record HasValue (es : List Enum) (enum value : Str) (number : ℕ) : Type 0 where
  pub parent : Enum
  pub is-parent : Memᴰ parent es
  pub parent-name : parent.name ≡ enum
  pub child : EnumValue
  pub is-child : Memᴰ child parent.values
  pub child-name : child.name ≡ value
  pub child-number : child.number ≡ number

-- a bit field of this name with a member of this name, bit and width
pub record HasMember (bs : List BitField) (field member : Str) (bit width : ℕ) : Type 0 where
  pub parent : BitField
  pub is-parent : Memᴰ parent bs
  pub parent-name : parent.name ≡ field
  pub child : Member
  pub is-child : Memᴰ child parent.members
  pub child-name : child.name ≡ member
  pub child-bit : child.bit ≡ bit
  pub child-width : member_width child ≡ width

-- a layout of this name with a field of this name, offset, size and description. 01: fields are those of the layouts, a field's parent is its
-- layout, non-padding unless their kind is padding
pub record HasField (ts : List TypeLayout) (type field : Str) (offset size : ℕ) (described : Str) : Type 0 where
  pub parent : TypeLayout
  pub is-parent : Memᴰ parent ts
  pub parent-name : parent.name ≡ type
  pub child : FieldLayout
  pub is-child : Memᴰ child parent.fields
  pub child-name : child.name ≡ field
  pub child-offset : child.offset ≡ offset
  pub child-size : child.size ≡ size
  pub child-described : child.described ≡ described
  pub child-real : child.padding ≡ false

-- this constant as this integer; the first of the name, under 01's premises the only one
pub record Holds (cs : List Const) (constant : Str) (number : ℕ) : Type 0 where
  pub found : Const
  pub is_found : constant_in constant cs ≡ Some found
  pub is-integer : found.value ≡ integer number

-- a layout of this name with these fields, in this order
pub record Laid (ts : List TypeLayout) (type : Str) (fields : List FieldLayout) : Type 0 where
  pub found : TypeLayout
  pub is_found : type_in type ts ≡ Some found
  pub is-fields : found.fields ≡ fields

-- the premises, each with 01's words for it -----------------------------------------------------------------------------------------

abbrev pub Kinded : List Field → Type 0
Kinded fs = (f : Field) → Memᴰ f fs → Memᴰ f.kind kind_words

-- for the first sentence, of the first record and of the accepted ones
pub record Kinds (s : Schema) : Type 0 where
  -- "All kinds among the sixteen"
  pub of-struct : (t : Struct) → Memᴰ t s.structs → Kinded t.fields
  pub of-family : (m : Family) → Memᴰ m s.families → Kinded m.common
  pub of-variant : (m : Family) → Memᴰ m s.families → (v : Variant) → Memᴰ v m.variants → Kinded v.fields

abbrev pub NoDup : List Str → Type 0
NoDup [] = Unit {0}
NoDup (x ∷ xs) = (Memᴰ x xs → ⊥) × NoDup xs

unfoldable pub slots_of : List Struct → List Str
slots_of [] = []
slots_of (t ∷ ts) = with_some t.slot (slots_of ts)

abbrev pub NoColon : Str → Type 0
NoColon n = Memᴰ 58 n → ⊥

-- for the second sentence, of the accepted records
pub record Names (s : Schema) : Type 0 where
  -- "No name .. twice in its list"
  pub structs-once : NoDup (map (λ (t : Struct). t.name) s.structs)
  pub families-once : NoDup (map (λ (m : Family). m.name) s.families)
  -- "No .. slot twice in its list"
  pub slots-once : NoDup (slots_of s.structs)
  -- "no colon in a name"
  pub struct-colons : (t : Struct) → Memᴰ t s.structs → NoColon t.name
  pub family-colons : (m : Family) → Memᴰ m s.families → NoColon m.name

pub record Carries (ss : List Struct) (root constant : Str) : Type 0 where
  pub struct : Struct
  pub is-struct : Memᴰ struct ss
  pub struct-name : struct.name ≡ root
  -- "the structure fills one of the three slots"
  pub slot : Str
  pub is-slot : Memᴰ slot slot_order
  pub in-slot : struct.slot ≡ Some slot
  -- "and names the same constant"
  pub names : struct.version ≡ Some constant

-- for the second sentence, of the accepted records: a type under the number that this structure's constant holds
pub record Governed (root constant type : Str) (s : Schema) : Type 0 where
  -- "the structure fills one of the three slots and names the same constant in every later record"
  pub carries : Carries s.structs root constant
  -- "every record holds it as an integer"
  pub number : ℕ
  pub holds : Holds s.constants constant number
  -- "the type, by its name before the first "::" .. is owned by that structure in every later record"
  pub owned : owner_of (types_in s) (owning type) ≡ Some root

-- what demand 3 asks --------------------------------------------------------------------------------------------------------------

-- each non-padding field, enum value and bit member of the first is found in the last
pub record Kept (first last : Schema) : Type 0 where
  pub values : {e v : Str} {n : ℕ} → HasValue first.enums e v n → HasValue last.enums e v n
  pub members : {b m : Str} {n w : ℕ} → HasMember first.bitfields b m n w → HasMember last.bitfields b m n w
  pub fields : {t f : Str} {o z : ℕ} {d : Str} → HasField (types first) t f o z d → HasField (types last) t f o z d
