-- 02's rule of pointers as a statement on a record's schema: which fields there are, which of them break the rule and how, and which is the first.
-- Assumes nothing.
use Rattle.std.specs.Prelude.{◌≡◌, ◌⊎◌, ℕ, Option, Some}
use mathlib.Core.List.{List, [], ◌∷◌, ◌++◌, Memᴰ}
use Rattle.record.specs.Base.{Str}
use Rattle.record.specs.Schema.{Schema, Field, Struct, Family, Variant}
use Rattle.record.specs.Kind.{kind_of}
use Rattle.record.specs.Owner.{Types, types_in}
use Rattle.record.specs.Reading.{Rec}
use Rattle.record.specs.declared.kind.Kind.TheVariants.{StructPtr, StructArrayPtr, StructPtrArrayPtr, TaggedFamPtr}
use Rattle.layout.specs.Answer.{Answer}
use Rattle.pointers.specs.Pointers.{field_here}

-- a field of a structure, of a family or of one of its variants
pub data FieldIn (t : Types) (f : Field) : Type 0 where
  of-struct : (u : Struct) → Memᴰ u t.structs → Memᴰ f u.fields → FieldIn t f
  of-family : (m : Family) → Memᴰ m t.families → Memᴰ f m.common → FieldIn t f
  of-variant : (m : Family) → Memᴰ m t.families → (v : Variant) → Memᴰ v m.variants → Memᴰ f v.fields → FieldIn t f

-- a field that must name a structure, with the operand by which it names one: its type, or the element of an array. 02: "By referenced_type, a
-- struct_ptr, struct_array_ptr or struct_ptr_array_ptr"
abbrev pub StructPointer : Field → Option Str → Type 0
StructPointer f o =
    ((kind_of f.kind ≡ StructPtr) × (o ≡ f.typ))
    ⊎ (((kind_of f.kind ≡ StructArrayPtr) × (o ≡ f.element))
    ⊎ ((kind_of f.kind ≡ StructPtrArrayPtr) × (o ≡ f.element)))

-- one that must name a family. 02: "a tagged_fam_ptr"
abbrev pub FamilyPointer : Field → Option Str → Type 0
FamilyPointer f o = (kind_of f.kind ≡ TaggedFamPtr) × (o ≡ f.typ)

-- 02: "name a declared structure"; an absent operand names nothing
pub record NamesStruct (t : Types) (o : Option Str) : Type 0 where
  pub struct : Struct
  pub declared : Memᴰ struct t.structs
  pub named : o ≡ Some struct.name

pub record NamesFamily (t : Types) (o : Option Str) : Type 0 where
  pub family : Family
  pub declared : Memᴰ family t.families
  pub named : o ≡ Some family.name

-- a field that does not break the rule. 02: "simple_fam_ptr and the rest are not judged"
abbrev pub Points : Types → Field → Type 0
Points t f = ((o : Option Str) → StructPointer f o → NamesStruct t o) × ((o : Option Str) → FamilyPointer f o → NamesFamily t o)

-- a field that breaks the rule, with its number. 02: "59 names neither a structure nor a family, 60 names only the other of the two"
pub data Breaks (t : Types) (f : Field) (n : ℕ) : Type 0 where
  no-struct : (o : Option Str) → StructPointer f o → (NamesStruct t o → ⊥) → (NamesFamily t o → ⊥) → n ≡ 59 → Breaks t f n
  only-family : (o : Option Str) → StructPointer f o → (NamesStruct t o → ⊥) → NamesFamily t o → n ≡ 60 → Breaks t f n
  no-family : (o : Option Str) → FamilyPointer f o → (NamesFamily t o → ⊥) → (NamesStruct t o → ⊥) → n ≡ 59 → Breaks t f n
  only-struct : (o : Option Str) → FamilyPointer f o → (NamesFamily t o → ⊥) → NamesStruct t o → n ≡ 60 → Breaks t f n

-- 02: "no field breaks this"
abbrev pub AllPoint : Schema → Type 0
AllPoint c = (f : Field) → FieldIn (types_in c) f → Points (types_in c) f

-- the fields whose commands stand at some places do not break it
abbrev pub AllPointAt : Rec → Schema → List ℕ → Type 0
AllPointAt r c ps = (at : ℕ) → Memᴰ at ps → Points (types_in c) (field_here r.stream r.pool at)

-- 02: "otherwise gives the place of the first that does": of the fields at some places the answer's one breaks the rule, and none before it
pub record FirstBroken (r : Rec) (c : Schema) (ps : List ℕ) (a : Answer) : Type 0 where
  pub before : List ℕ
  pub after : List ℕ
  pub split : ps ≡ before ++ (a.place ∷ after)
  pub all-point : AllPointAt r c before
  pub breaks : Breaks (types_in c) (field_here r.stream r.pool a.place) a.number
  pub rest : a ≡ record { number = a.number; side = 0; place = a.place; len = 0; text = [] }
