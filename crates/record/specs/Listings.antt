-- The fourteen lists of a record, as the one function that goes along them takes them. Written by tools/lists.py. Assumes nothing.
use Rattle.std.specs.Prelude.{◌≡◌, refl, ℕ, Some, None}
use Rattle.record.specs.Base.{Str, bytes, first}
use Rattle.record.specs.Schema.{Alias, BitField, Const, Enum, EnumValue, Family, Field, Heading, Key, Member, Struct, Variant, Version}
use Rattle.record.specs.Commands.{operands, wide, widths, width_with, width_of, Step}
use Rattle.record.specs.Commands.{alias_at, bitfield_at, constant_at, enum_at, family_at, field_at, head_at, key_at, member_at, struct_at, value_at}
use Rattle.record.specs.Commands.{variant_at, version_at}
use Rattle.record.specs.Lists.{alias_of, aliases, bitfield_of, bitfields, constant_of, constants, enum_of, enums, families, family_of, field_of}
use Rattle.record.specs.Lists.{fields, head_of, heads, key_of, keys, member_of, members, struct_of, structs, unstored, value_of, values, variant_of}
use Rattle.record.specs.Lists.{variants, version_of, versions}
use Rattle.record.specs.Listing.{Elements, Answering, Listing, Searching, Naming}
use Rattle.record.specs.Steps.{heads_at, HeadsFrom, constants_at, ConstantsFrom, aliases_at, AliasesFrom, values_at, ValuesFrom, value_found}
use Rattle.record.specs.Steps.{value_in, enums_at, EnumsFrom, members_at, MembersFrom, member_found, member_in, bitfields_at, BitfieldsFrom}
use Rattle.record.specs.Steps.{bitfield_found, bitfield_in, keys_at, KeysFrom, fields_at, FieldsFrom, structs_at, StructsFrom, variants_at}
use Rattle.record.specs.Steps.{VariantsFrom, families_at, FamiliesFrom, family_found, family_in, unstored_at, UnstoredFrom, versions_at, VersionsFrom}
use Rattle.record.specs.declared.command as D
use Rattle.record.specs.declared.lists.UnstoredKey.{UnstoredKey}
use Rattle.record.specs.declared.seek.Between.TheVariants.{Anything, Nothing, Keys, Fields}

-- a step along the unstored keys, each as the plugin key that it is
abbrev pub bare : Step UnstoredKey → Step D.PluginKey.PluginKey
bare None = None
bare (Some (e, k)) = Some (e.key, k)

-- what a step along them answers
abbrev pub UnstoredKeysFrom : Str → ℕ → Step UnstoredKey → Type 0
UnstoredKeysFrom s at r = UnstoredFrom s at (bare r)

-- heads
abbrev pub head_elements : Elements D.Head.Head Heading
head_elements = record { number = 1; between = Anything; read = head_at; of = λ s p x rest. head_of p x }

pub heads_answers : Answering head_elements HeadsFrom
unfolding heads_at heads
heads_answers = record {
  over = λ s at o. record { list = o.list; left = o.left };
  next = λ s at e k n h. record { list = n.list; left = n.left };
}

abbrev pub head_list : Listing D.Head.Head
head_list = record { Model = Heading; elements = head_elements; From = HeadsFrom; answers = heads_answers }

-- constants
abbrev pub constant_elements : Elements D.Constant.Constant Const
constant_elements = record { number = 2; between = Anything; read = constant_at; of = λ s p x rest. constant_of p x }

pub constants_answers : Answering constant_elements ConstantsFrom
unfolding constants_at constants
constants_answers = record {
  over = λ s at o. record { list = o.list; left = o.left };
  next = λ s at e k n h. record { list = n.list; left = n.left };
}

abbrev pub constant_list : Listing D.Constant.Constant
constant_list = record { Model = Const; elements = constant_elements; From = ConstantsFrom; answers = constants_answers }

-- aliases
abbrev pub alias_elements : Elements D.TypeAlias.TypeAlias Alias
alias_elements = record { number = 3; between = Anything; read = alias_at; of = λ s p x rest. alias_of p x }

pub aliases_answers : Answering alias_elements AliasesFrom
unfolding aliases_at aliases
aliases_answers = record {
  over = λ s at o. record { list = o.list; left = o.left };
  next = λ s at e k n h. record { list = n.list; left = n.left };
}

abbrev pub alias_list : Listing D.TypeAlias.TypeAlias
alias_list = record { Model = Alias; elements = alias_elements; From = AliasesFrom; answers = aliases_answers }

-- values
abbrev pub value_elements : Elements D.Value.Value EnumValue
value_elements = record { number = 5; between = Nothing; read = value_at; of = λ s p x rest. value_of p x }

pub values_answers : Answering value_elements ValuesFrom
unfolding values_at values
values_answers = record {
  over = λ s at o. record { list = o.list; left = o.left };
  next = λ s at e k n h. record { list = n.list; left = n.left };
}

abbrev pub value_list : Listing D.Value.Value
value_list = record { Model = EnumValue; elements = value_elements; From = ValuesFrom; answers = values_answers }

abbrev pub value_search : Str → Str → ℕ → Str → Step D.Value.Value → Type 0
value_search s p at n r = value_in n (values_at s p at) ≡ value_found s p r

pub values_search_answers : Searching value_elements ValuesFrom (λ e. e.name) (λ x. x.name) value_search
unfolding values_at values value_in
values_search_answers = record {
  named = λ s p e rest. refl;
  over = λ s at f. record { list = f.list; left = f.left };
  next = λ s at e k f. record { list = f.list; left = f.left };
  none = λ s p at n h. h;
  some = λ s p at n e k h. h;
}

abbrev pub value_naming : Naming D.Value.Value
value_naming = record {
  list = value_list;
  name = λ e. e.name;
  name_of = λ x. x.name;
  Found = value_search;
  answers = values_search_answers;
}

-- enums
abbrev pub enum_elements : Elements D.Enum.Enum Enum
enum_elements = record { number = 4; between = Anything; read = enum_at; of = λ s p x rest. enum_of p x (values s p rest) }

pub enums_answers : Answering enum_elements EnumsFrom
unfolding enums_at enums values_at
enums_answers = record {
  over = λ s at o. record { list = o.list; left = o.left };
  next = λ s at e k n h. record { list = n.list; left = n.left };
}

abbrev pub enum_list : Listing D.Enum.Enum
enum_list = record { Model = Enum; elements = enum_elements; From = EnumsFrom; answers = enums_answers }

-- members
abbrev pub member_elements : Elements D.Member.Member Member
member_elements = record { number = 7; between = Nothing; read = member_at; of = λ s p x rest. member_of p x }

pub members_answers : Answering member_elements MembersFrom
unfolding members_at members
members_answers = record {
  over = λ s at o. record { list = o.list; left = o.left };
  next = λ s at e k n h. record { list = n.list; left = n.left };
}

abbrev pub member_list : Listing D.Member.Member
member_list = record { Model = Member; elements = member_elements; From = MembersFrom; answers = members_answers }

abbrev pub member_search : Str → Str → ℕ → Str → Step D.Member.Member → Type 0
member_search s p at n r = member_in n (members_at s p at) ≡ member_found s p r

pub members_search_answers : Searching member_elements MembersFrom (λ e. e.name) (λ x. x.name) member_search
unfolding members_at members member_in
members_search_answers = record {
  named = λ s p e rest. refl;
  over = λ s at f. record { list = f.list; left = f.left };
  next = λ s at e k f. record { list = f.list; left = f.left };
  none = λ s p at n h. h;
  some = λ s p at n e k h. h;
}

abbrev pub member_naming : Naming D.Member.Member
member_naming = record {
  list = member_list;
  name = λ e. e.name;
  name_of = λ x. x.name;
  Found = member_search;
  answers = members_search_answers;
}

-- bitfields
abbrev pub bitfield_elements : Elements D.Bitfield.Bitfield BitField
bitfield_elements = record { number = 6; between = Anything; read = bitfield_at; of = λ s p x rest. bitfield_of p x (members s p rest) }

pub bitfields_answers : Answering bitfield_elements BitfieldsFrom
unfolding bitfields_at bitfields members_at
bitfields_answers = record {
  over = λ s at o. record { list = o.list; left = o.left };
  next = λ s at e k n h. record { list = n.list; left = n.left };
}

abbrev pub bitfield_list : Listing D.Bitfield.Bitfield
bitfield_list = record { Model = BitField; elements = bitfield_elements; From = BitfieldsFrom; answers = bitfields_answers }

abbrev pub bitfield_search : Str → Str → ℕ → Str → Step D.Bitfield.Bitfield → Type 0
bitfield_search s p at n r = bitfield_in n (bitfields_at s p at) ≡ bitfield_found s p r

pub bitfields_search_answers : Searching bitfield_elements BitfieldsFrom (λ e. e.name) (λ x. x.name) bitfield_search
unfolding bitfields_at bitfields bitfield_in members_at
bitfields_search_answers = record {
  named = λ s p e rest. refl;
  over = λ s at f. record { list = f.list; left = f.left };
  next = λ s at e k f. record { list = f.list; left = f.left };
  none = λ s p at n h. h;
  some = λ s p at n e k h. h;
}

abbrev pub bitfield_naming : Naming D.Bitfield.Bitfield
bitfield_naming = record {
  list = bitfield_list;
  name = λ e. e.name;
  name_of = λ x. x.name;
  Found = bitfield_search;
  answers = bitfields_search_answers;
}

-- keys
abbrev pub key_elements : Elements D.PluginKey.PluginKey Key
key_elements = record { number = 12; between = Nothing; read = key_at; of = λ s p x rest. key_of p x }

pub keys_answers : Answering key_elements KeysFrom
unfolding keys_at keys
keys_answers = record {
  over = λ s at o. record { list = o.list; left = o.left };
  next = λ s at e k n h. record { list = n.list; left = n.left };
}

abbrev pub key_list : Listing D.PluginKey.PluginKey
key_list = record { Model = Key; elements = key_elements; From = KeysFrom; answers = keys_answers }

-- fields
abbrev pub field_elements : Elements D.Field.Field Field
field_elements = record { number = 11; between = Keys; read = field_at; of = λ s p x rest. field_of p x (first (keys s p rest)) }

pub fields_answers : Answering field_elements FieldsFrom
unfolding fields_at fields keys_at width_of width_with operands widths wide bytes
fields_answers = record {
  over = λ s at o. record { list = o.list; left = o.left; placed = tt };
  next = λ s at e k n h.
      record { list = n.list; left = n.left; placed = record { past = h.past; in-stream = h.in-stream; number = h.number; operands = h.operands } };
}

abbrev pub field_list : Listing D.Field.Field
field_list = record { Model = Field; elements = field_elements; From = FieldsFrom; answers = fields_answers }

-- structs
abbrev pub struct_elements : Elements D.Struct.Struct Struct
struct_elements = record { number = 8; between = Anything; read = struct_at; of = λ s p x rest. struct_of p x (fields s p rest) }

pub structs_answers : Answering struct_elements StructsFrom
unfolding structs_at structs fields_at
structs_answers = record {
  over = λ s at o. record { list = o.list; left = o.left };
  next = λ s at e k n h. record { list = n.list; left = n.left };
}

abbrev pub struct_list : Listing D.Struct.Struct
struct_list = record { Model = Struct; elements = struct_elements; From = StructsFrom; answers = structs_answers }

-- variants
abbrev pub variant_elements : Elements D.Variant.Variant Variant
variant_elements = record { number = 10; between = Fields; read = variant_at; of = λ s p x rest. variant_of p x (fields s p rest) }

pub variants_answers : Answering variant_elements VariantsFrom
unfolding variants_at variants fields_at
variants_answers = record {
  over = λ s at o. record { list = o.list; left = o.left };
  next = λ s at e k n h. record { list = n.list; left = n.left };
}

abbrev pub variant_list : Listing D.Variant.Variant
variant_list = record { Model = Variant; elements = variant_elements; From = VariantsFrom; answers = variants_answers }

-- families
abbrev pub family_elements : Elements D.Family.Family Family
family_elements = record { number = 9; between = Anything; read = family_at; of = λ s p x rest. family_of p x (fields s p rest) (variants s p rest) }

pub families_answers : Answering family_elements FamiliesFrom
unfolding families_at families fields_at variants_at
families_answers = record {
  over = λ s at o. record { list = o.list; left = o.left };
  next = λ s at e k n h. record { list = n.list; left = n.left };
}

abbrev pub family_list : Listing D.Family.Family
family_list = record { Model = Family; elements = family_elements; From = FamiliesFrom; answers = families_answers }

abbrev pub family_search : Str → Str → ℕ → Str → Step D.Family.Family → Type 0
family_search s p at n r = family_in n (families_at s p at) ≡ family_found s p r

pub families_search_answers : Searching family_elements FamiliesFrom (λ e. e.name) (λ x. x.name) family_search
unfolding families_at families family_in fields_at variants_at
families_search_answers = record {
  named = λ s p e rest. refl;
  over = λ s at f. record { list = f.list; left = f.left };
  next = λ s at e k f. record { list = f.list; left = f.left };
  none = λ s p at n h. h;
  some = λ s p at n e k h. h;
}

abbrev pub family_naming : Naming D.Family.Family
family_naming = record {
  list = family_list;
  name = λ e. e.name;
  name_of = λ x. x.name;
  Found = family_search;
  answers = families_search_answers;
}

-- unstored
abbrev pub unstored_elements : Elements UnstoredKey Key
unstored_elements = record { number = 13; between = Anything; read = λ y. record { key = key_at y }; of = λ s p x rest. key_of p x.key }

pub unstored_answers : Answering unstored_elements UnstoredKeysFrom
unfolding unstored_at unstored
unstored_answers = record {
  over = λ s at o. record { list = o.list; left = o.left };
  next = λ s at e k n h. record { list = n.list; left = n.left };
}

abbrev pub unstored_list : Listing UnstoredKey
unstored_list = record { Model = Key; elements = unstored_elements; From = UnstoredKeysFrom; answers = unstored_answers }

-- versions
abbrev pub version_elements : Elements D.Version.Version Version
version_elements = record { number = 14; between = Anything; read = version_at; of = λ s p x rest. version_of p x }

pub versions_answers : Answering version_elements VersionsFrom
unfolding versions_at versions
versions_answers = record {
  over = λ s at o. record { list = o.list; left = o.left };
  next = λ s at e k n h. record { list = n.list; left = n.left };
}

abbrev pub version_list : Listing D.Version.Version
version_list = record { Model = Version; elements = version_elements; From = VersionsFrom; answers = versions_answers }
