-- The lists of a record (01, Record commands) from a place on, the first of a name in each, and what a step along each answers. Written by
-- tools/lists.py. Assumes nothing.
use Rattle.std.specs.Prelude.{◌≡◌, ℕ, suc, ◌-◌, ◌≤◌, length, get_or, drop, Option, Some, None}
use mathlib.Core.List.{List, [], ◌∷◌, Memᴰ}
use Rattle.record.specs.Base.{Str, eqs, find, first}
use Rattle.record.specs.Schema.{Alias, BitField, Const, Enum, EnumValue, Family, Field, Heading, Key, Member, Struct, Variant, Version}
use Rattle.record.specs.Commands.{field_at, commands_at}
use Rattle.record.specs.Lists.{alias_of, aliases, bitfield_of, bitfields, constant_of, constants, enum_of, enums, families, family_of, field_of}
use Rattle.record.specs.Lists.{fields, head_of, heads, key_of, keys, member_of, members, struct_of, structs, unstored, value_of, values, variant_of}
use Rattle.record.specs.Lists.{variants, version_of, versions}
use Rattle.record.specs.declared.command as D
use Rattle.record.specs.declared.command.Cursor.{Cursor}
use Rattle.record.specs.Commands.{Step}

-- the lists that begin at a place
unfoldable pub heads_at : Str → Str → ℕ → List Heading
heads_at s p at = heads s p (commands_at s at)

unfoldable pub constants_at : Str → Str → ℕ → List Const
constants_at s p at = constants s p (commands_at s at)

unfoldable pub aliases_at : Str → Str → ℕ → List Alias
aliases_at s p at = aliases s p (commands_at s at)

unfoldable pub values_at : Str → Str → ℕ → List EnumValue
values_at s p at = values s p (commands_at s at)

unfoldable pub enums_at : Str → Str → ℕ → List Enum
enums_at s p at = enums s p (commands_at s at)

unfoldable pub members_at : Str → Str → ℕ → List Member
members_at s p at = members s p (commands_at s at)

unfoldable pub bitfields_at : Str → Str → ℕ → List BitField
bitfields_at s p at = bitfields s p (commands_at s at)

unfoldable pub keys_at : Str → Str → ℕ → List Key
keys_at s p at = keys s p (commands_at s at)

-- the plugin key of the field before a place
abbrev pub field_key_at : Str → Str → ℕ → Option Key
field_key_at s p at = first (keys_at s p at)

unfoldable pub fields_at : Str → Str → ℕ → List Field
fields_at s p at = fields s p (commands_at s at)

unfoldable pub structs_at : Str → Str → ℕ → List Struct
structs_at s p at = structs s p (commands_at s at)

unfoldable pub variants_at : Str → Str → ℕ → List Variant
variants_at s p at = variants s p (commands_at s at)

unfoldable pub families_at : Str → Str → ℕ → List Family
families_at s p at = families s p (commands_at s at)

unfoldable pub unstored_at : Str → Str → ℕ → List Key
unstored_at s p at = unstored s p (commands_at s at)

unfoldable pub versions_at : Str → Str → ℕ → List Version
versions_at s p at = versions s p (commands_at s at)

-- heads: the list at a step, and one more than the bytes after the element
abbrev pub heads_of : Str → Str → Step D.Head.Head → List Heading
heads_of s p None = []
heads_of s p (Some (e, k)) = head_of p e ∷ heads_at s p k.at

abbrev pub heads_left : Str → Step D.Head.Head → ℕ
heads_left s None = 0
heads_left s (Some (e, k)) = suc (length s - k.at)

pub record HeadsFrom (s : Str) (at : ℕ) (r : Step D.Head.Head) : Type 0 where
  pub list : (p : Str) → heads_at s p at ≡ heads_of s p r
  pub left : heads_left s r ≤ length s - at

-- constants: the list at a step, and one more than the bytes after the element
abbrev pub constants_of : Str → Str → Step D.Constant.Constant → List Const
constants_of s p None = []
constants_of s p (Some (e, k)) = constant_of p e ∷ constants_at s p k.at

abbrev pub constants_left : Str → Step D.Constant.Constant → ℕ
constants_left s None = 0
constants_left s (Some (e, k)) = suc (length s - k.at)

pub record ConstantsFrom (s : Str) (at : ℕ) (r : Step D.Constant.Constant) : Type 0 where
  pub list : (p : Str) → constants_at s p at ≡ constants_of s p r
  pub left : constants_left s r ≤ length s - at

-- the element alone
abbrev pub constant_found : Str → Str → Step D.Constant.Constant → Option Const
constant_found s p None = None
constant_found s p (Some (e, k)) = Some (constant_of p e)

-- the first of that name
unfoldable pub constant_in : Str → List Const → Option Const
constant_in n l = find (λ (e : Const). eqs e.name n) l

-- aliases: the list at a step, and one more than the bytes after the element
abbrev pub aliases_of : Str → Str → Step D.TypeAlias.TypeAlias → List Alias
aliases_of s p None = []
aliases_of s p (Some (e, k)) = alias_of p e ∷ aliases_at s p k.at

abbrev pub aliases_left : Str → Step D.TypeAlias.TypeAlias → ℕ
aliases_left s None = 0
aliases_left s (Some (e, k)) = suc (length s - k.at)

pub record AliasesFrom (s : Str) (at : ℕ) (r : Step D.TypeAlias.TypeAlias) : Type 0 where
  pub list : (p : Str) → aliases_at s p at ≡ aliases_of s p r
  pub left : aliases_left s r ≤ length s - at

-- the first of that name
unfoldable pub alias_in : Str → List Alias → Option Alias
alias_in n l = find (λ (e : Alias). eqs e.name n) l

-- values: the list at a step, and one more than the bytes after the element
abbrev pub values_of : Str → Str → Step D.Value.Value → List EnumValue
values_of s p None = []
values_of s p (Some (e, k)) = value_of p e ∷ values_at s p k.at

abbrev pub values_left : Str → Step D.Value.Value → ℕ
values_left s None = 0
values_left s (Some (e, k)) = suc (length s - k.at)

pub record ValuesFrom (s : Str) (at : ℕ) (r : Step D.Value.Value) : Type 0 where
  pub list : (p : Str) → values_at s p at ≡ values_of s p r
  pub left : values_left s r ≤ length s - at

-- the element alone
abbrev pub value_found : Str → Str → Step D.Value.Value → Option EnumValue
value_found s p None = None
value_found s p (Some (e, k)) = Some (value_of p e)

-- the first of that name
unfoldable pub value_in : Str → List EnumValue → Option EnumValue
value_in n l = find (λ (e : EnumValue). eqs e.name n) l

-- enums: the list at a step, and one more than the bytes after the element
abbrev pub enums_of : Str → Str → Step D.Enum.Enum → List Enum
enums_of s p None = []
enums_of s p (Some (e, k)) = enum_of p e (values_at s p k.at) ∷ enums_at s p k.at

abbrev pub enums_left : Str → Step D.Enum.Enum → ℕ
enums_left s None = 0
enums_left s (Some (e, k)) = suc (length s - k.at)

pub record EnumsFrom (s : Str) (at : ℕ) (r : Step D.Enum.Enum) : Type 0 where
  pub list : (p : Str) → enums_at s p at ≡ enums_of s p r
  pub left : enums_left s r ≤ length s - at

-- the element alone
abbrev pub enum_found : Str → Str → Step D.Enum.Enum → Option Enum
enum_found s p None = None
enum_found s p (Some (e, k)) = Some (enum_of p e (values_at s p k.at))

-- the first of that name
unfoldable pub enum_in : Str → List Enum → Option Enum
enum_in n l = find (λ (e : Enum). eqs e.name n) l

-- members: the list at a step, and one more than the bytes after the element
abbrev pub members_of : Str → Str → Step D.Member.Member → List Member
members_of s p None = []
members_of s p (Some (e, k)) = member_of p e ∷ members_at s p k.at

abbrev pub members_left : Str → Step D.Member.Member → ℕ
members_left s None = 0
members_left s (Some (e, k)) = suc (length s - k.at)

pub record MembersFrom (s : Str) (at : ℕ) (r : Step D.Member.Member) : Type 0 where
  pub list : (p : Str) → members_at s p at ≡ members_of s p r
  pub left : members_left s r ≤ length s - at

-- the element alone
abbrev pub member_found : Str → Str → Step D.Member.Member → Option Member
member_found s p None = None
member_found s p (Some (e, k)) = Some (member_of p e)

-- the first of that name
unfoldable pub member_in : Str → List Member → Option Member
member_in n l = find (λ (e : Member). eqs e.name n) l

-- bitfields: the list at a step, and one more than the bytes after the element
abbrev pub bitfields_of : Str → Str → Step D.Bitfield.Bitfield → List BitField
bitfields_of s p None = []
bitfields_of s p (Some (e, k)) = bitfield_of p e (members_at s p k.at) ∷ bitfields_at s p k.at

abbrev pub bitfields_left : Str → Step D.Bitfield.Bitfield → ℕ
bitfields_left s None = 0
bitfields_left s (Some (e, k)) = suc (length s - k.at)

pub record BitfieldsFrom (s : Str) (at : ℕ) (r : Step D.Bitfield.Bitfield) : Type 0 where
  pub list : (p : Str) → bitfields_at s p at ≡ bitfields_of s p r
  pub left : bitfields_left s r ≤ length s - at

-- the element alone
abbrev pub bitfield_found : Str → Str → Step D.Bitfield.Bitfield → Option BitField
bitfield_found s p None = None
bitfield_found s p (Some (e, k)) = Some (bitfield_of p e (members_at s p k.at))

-- the first of that name
unfoldable pub bitfield_in : Str → List BitField → Option BitField
bitfield_in n l = find (λ (e : BitField). eqs e.name n) l

-- keys: the list at a step, and one more than the bytes after the element
abbrev pub keys_of : Str → Str → Step D.PluginKey.PluginKey → List Key
keys_of s p None = []
keys_of s p (Some (e, k)) = key_of p e ∷ keys_at s p k.at

abbrev pub keys_left : Str → Step D.PluginKey.PluginKey → ℕ
keys_left s None = 0
keys_left s (Some (e, k)) = suc (length s - k.at)

pub record KeysFrom (s : Str) (at : ℕ) (r : Step D.PluginKey.PluginKey) : Type 0 where
  pub list : (p : Str) → keys_at s p at ≡ keys_of s p r
  pub left : keys_left s r ≤ length s - at

-- a field stands 33 bytes before the cursor after it, among the commands from a place on
pub record FieldPlace (s : Str) (at : ℕ) (e : D.Field.Field) (k : Cursor) : Type 0 where
  pub past : 33 ≤ k.at
  pub in-stream : Memᴰ (k.at - 33) (commands_at s at)
  pub number : get_or s (k.at - 33) 0 ≡ 11
  pub operands : e ≡ field_at (drop (k.at - 33) s)

abbrev pub FieldPlaced : Str → ℕ → Step D.Field.Field → Type 0
FieldPlaced s at None = Unit
FieldPlaced s at (Some (e, k)) = FieldPlace s at e k

-- fields: the list at a step, and one more than the bytes after the element
abbrev pub fields_of : Str → Str → Step D.Field.Field → List Field
fields_of s p None = []
fields_of s p (Some (e, k)) = field_of p e (field_key_at s p k.at) ∷ fields_at s p k.at

abbrev pub fields_left : Str → Step D.Field.Field → ℕ
fields_left s None = 0
fields_left s (Some (e, k)) = suc (length s - k.at)

pub record FieldsFrom (s : Str) (at : ℕ) (r : Step D.Field.Field) : Type 0 where
  pub list : (p : Str) → fields_at s p at ≡ fields_of s p r
  pub left : fields_left s r ≤ length s - at
  pub placed : FieldPlaced s at r

-- structs: the list at a step, and one more than the bytes after the element
abbrev pub structs_of : Str → Str → Step D.Struct.Struct → List Struct
structs_of s p None = []
structs_of s p (Some (e, k)) = struct_of p e (fields_at s p k.at) ∷ structs_at s p k.at

abbrev pub structs_left : Str → Step D.Struct.Struct → ℕ
structs_left s None = 0
structs_left s (Some (e, k)) = suc (length s - k.at)

pub record StructsFrom (s : Str) (at : ℕ) (r : Step D.Struct.Struct) : Type 0 where
  pub list : (p : Str) → structs_at s p at ≡ structs_of s p r
  pub left : structs_left s r ≤ length s - at

-- the element alone
abbrev pub struct_found : Str → Str → Step D.Struct.Struct → Option Struct
struct_found s p None = None
struct_found s p (Some (e, k)) = Some (struct_of p e (fields_at s p k.at))

-- the first of that name
unfoldable pub struct_in : Str → List Struct → Option Struct
struct_in n l = find (λ (e : Struct). eqs e.name n) l

-- variants: the list at a step, and one more than the bytes after the element
abbrev pub variants_of : Str → Str → Step D.Variant.Variant → List Variant
variants_of s p None = []
variants_of s p (Some (e, k)) = variant_of p e (fields_at s p k.at) ∷ variants_at s p k.at

abbrev pub variants_left : Str → Step D.Variant.Variant → ℕ
variants_left s None = 0
variants_left s (Some (e, k)) = suc (length s - k.at)

pub record VariantsFrom (s : Str) (at : ℕ) (r : Step D.Variant.Variant) : Type 0 where
  pub list : (p : Str) → variants_at s p at ≡ variants_of s p r
  pub left : variants_left s r ≤ length s - at

-- families: the list at a step, and one more than the bytes after the element
abbrev pub families_of : Str → Str → Step D.Family.Family → List Family
families_of s p None = []
families_of s p (Some (e, k)) = family_of p e (fields_at s p k.at) (variants_at s p k.at) ∷ families_at s p k.at

abbrev pub families_left : Str → Step D.Family.Family → ℕ
families_left s None = 0
families_left s (Some (e, k)) = suc (length s - k.at)

pub record FamiliesFrom (s : Str) (at : ℕ) (r : Step D.Family.Family) : Type 0 where
  pub list : (p : Str) → families_at s p at ≡ families_of s p r
  pub left : families_left s r ≤ length s - at

-- the element alone
abbrev pub family_found : Str → Str → Step D.Family.Family → Option Family
family_found s p None = None
family_found s p (Some (e, k)) = Some (family_of p e (fields_at s p k.at) (variants_at s p k.at))

-- the first of that name
unfoldable pub family_in : Str → List Family → Option Family
family_in n l = find (λ (e : Family). eqs e.name n) l

-- unstored: the list at a step, and one more than the bytes after the element
abbrev pub unstored_of : Str → Str → Step D.PluginKey.PluginKey → List Key
unstored_of s p None = []
unstored_of s p (Some (e, k)) = key_of p e ∷ unstored_at s p k.at

abbrev pub unstored_left : Str → Step D.PluginKey.PluginKey → ℕ
unstored_left s None = 0
unstored_left s (Some (e, k)) = suc (length s - k.at)

pub record UnstoredFrom (s : Str) (at : ℕ) (r : Step D.PluginKey.PluginKey) : Type 0 where
  pub list : (p : Str) → unstored_at s p at ≡ unstored_of s p r
  pub left : unstored_left s r ≤ length s - at

-- versions: the list at a step, and one more than the bytes after the element
abbrev pub versions_of : Str → Str → Step D.Version.Version → List Version
versions_of s p None = []
versions_of s p (Some (e, k)) = version_of p e ∷ versions_at s p k.at

abbrev pub versions_left : Str → Step D.Version.Version → ℕ
versions_left s None = 0
versions_left s (Some (e, k)) = suc (length s - k.at)

pub record VersionsFrom (s : Str) (at : ℕ) (r : Step D.Version.Version) : Type 0 where
  pub list : (p : Str) → versions_at s p at ≡ versions_of s p r
  pub left : versions_left s r ≤ length s - at
