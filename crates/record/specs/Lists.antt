-- The lists of a record (01, Record commands), read off the places of its commands; what the operands mean over the pool. Assumes nothing.
use Rattle.std.specs.Prelude.{List, [], ◌∷◌, Bool, true, false, ◌||◌, cond, ℕ, get_or, drop, eqb, Option, Some, None}
use Rattle.record.specs.Base.{Str, first, or_else}
use Rattle.record.specs.Stretch.{text_of}
use Rattle.record.specs.Schema.{Heading, integer, words, Const, Alias, Enum, EnumValue, BitField, Member}
use Rattle.record.specs.Schema.{Key, Field, Struct, Variant, Family, Version}
use Rattle.record.specs.Commands.{head_at, constant_at, alias_at, enum_at, value_at, bitfield_at, member_at}
use Rattle.record.specs.Commands.{struct_at, family_at, variant_at, field_at, key_at, version_at}
use Rattle.record.specs.declared.command as D
use Rattle.record.specs.declared.text.Text.{Text}

-- operands ---------------------------------------------------------------------------------------------------------------

abbrev pub opt_of : Str → Option Text → Option Str
opt_of p None = None
opt_of p (Some t) = Some (text_of p t)

-- elements ---------------------------------------------------------------------------------------------------------------

abbrev pub head_of : Str → D.Head.Head → Heading
head_of p c = record { release = opt_of p c.release; unreleased = c.unreleased }

abbrev pub constant_of : Str → D.Constant.Constant → Const
constant_of p c = record {
  name = text_of p c.name;
  value = cond c.is_text (words (or_else (opt_of p c.text) [])) (integer c.integer);
  api = c.ora_api;
  since = opt_of p c.first_release;
}

abbrev pub alias_of : Str → D.TypeAlias.TypeAlias → Alias
alias_of p c = record { name = text_of p c.name; underlying = text_of p c.underlying }

abbrev pub enum_of : Str → D.Enum.Enum → List EnumValue → Enum
enum_of p c l = record { name = text_of p c.name; size = c.size; api = c.ora_api; since = opt_of p c.first_release; values = l }

abbrev pub value_of : Str → D.Value.Value → EnumValue
value_of p c = record { name = text_of p c.name; number = c.value; since = opt_of p c.first_release }

abbrev pub bitfield_of : Str → D.Bitfield.Bitfield → List Member → BitField
bitfield_of p c l = record { name = text_of p c.name; size = c.size; since = opt_of p c.first_release; members = l }

abbrev pub member_of : Str → D.Member.Member → Member
member_of p c = record { name = text_of p c.name; bit = c.bit; width = c.width; since = opt_of p c.first_release }

abbrev pub struct_of : Str → D.Struct.Struct → List Field → Struct
struct_of p c l = record { name = text_of p c.name; slot = opt_of p c.generation_slot; version = opt_of p c.version_constant; fields = l }

abbrev pub family_of : Str → D.Family.Family → List Field → List Variant → Family
family_of p c l vs = record {
  name = text_of p c.name;
  disc_field = text_of p c.discriminant_field;
  disc_type = text_of p c.discriminant_type;
  len_field = text_of p c.param_len_field;
  len_type = opt_of p c.param_len_type;
  standalone = c.standalone;
  common = l;
  variants = vs;
}

abbrev pub variant_of : Str → D.Variant.Variant → List Field → Variant
variant_of p c l = record { disc = text_of p c.discriminant; fields = l }

abbrev pub field_of : Str → D.Field.Field → Option Key → Field
field_of p c k = record {
  name = text_of p c.name;
  kind = text_of p c.kind;
  typ = opt_of p c.type_name;
  element = opt_of p c.element;
  count = c.count;
  rows = c.rows;
  cols = c.cols;
  size = c.size;
  key = k;
}

abbrev pub key_of : Str → D.PluginKey.PluginKey → Key
key_of p c = record { name = text_of p c.name; since = opt_of p c.first_release }

abbrev pub version_of : Str → D.Version.Version → Version
version_of p c = record { struct = text_of p c.struct_name; version = c.version }

-- lists ------------------------------------------------------------------------------------------------------------------

-- the elements that the commands at these places give: each command of number b gives one, from its place and the places after it;
-- a command that may stand between is passed over, and any other ends the list
unfoldable pub listed : {A : Type 0} → Str → (ℕ → Bool) → ℕ → (ℕ → List ℕ → A) → List ℕ → List A
listed s over b f [] = []
listed s over b f (at ∷ ps) =
    cond (eqb (get_or s at 0) b) (f at ps ∷ listed s over b f ps)
    (cond (over (get_or s at 0)) (listed s over b f ps) [])

-- what may stand between the elements of a list: all commands, none, plugin keys, fields with their keys, variants and keys
abbrev pub anything : ℕ → Bool
anything b = true

abbrev pub nothing : ℕ → Bool
nothing b = false

abbrev pub a_key : ℕ → Bool
a_key b = eqb b 12

abbrev pub a_field : ℕ → Bool
a_field b = eqb b 11 || eqb b 12

abbrev pub a_variant : ℕ → Bool
a_variant b = eqb b 10 || eqb b 12

module _ (s p : Str) where
  unfoldable pub heads : List ℕ → List Heading
  heads = listed s anything 1 (λ at rest. head_of p (head_at (drop at s)))

  unfoldable pub constants : List ℕ → List Const
  constants = listed s anything 2 (λ at rest. constant_of p (constant_at (drop at s)))

  unfoldable pub aliases : List ℕ → List Alias
  aliases = listed s anything 3 (λ at rest. alias_of p (alias_at (drop at s)))

  unfoldable pub values : List ℕ → List EnumValue
  values = listed s nothing 5 (λ at rest. value_of p (value_at (drop at s)))

  unfoldable pub enums : List ℕ → List Enum
  enums = listed s anything 4 (λ at rest. enum_of p (enum_at (drop at s)) (values rest))

  unfoldable pub members : List ℕ → List Member
  members = listed s nothing 7 (λ at rest. member_of p (member_at (drop at s)))

  unfoldable pub bitfields : List ℕ → List BitField
  bitfields = listed s anything 6 (λ at rest. bitfield_of p (bitfield_at (drop at s)) (members rest))

  unfoldable pub keys : List ℕ → List Key
  keys = listed s nothing 12 (λ at rest. key_of p (key_at (drop at s)))

  unfoldable pub fields : List ℕ → List Field
  fields = listed s a_key 11 (λ at rest. field_of p (field_at (drop at s)) (first (keys rest)))

  unfoldable pub structs : List ℕ → List Struct
  structs = listed s anything 8 (λ at rest. struct_of p (struct_at (drop at s)) (fields rest))

  unfoldable pub variants : List ℕ → List Variant
  variants = listed s a_field 10 (λ at rest. variant_of p (variant_at (drop at s)) (fields rest))

  unfoldable pub families : List ℕ → List Family
  families = listed s anything 9 (λ at rest. family_of p (family_at (drop at s)) (fields rest) (variants rest))

  unfoldable pub unstored : List ℕ → List Key
  unstored = listed s anything 13 (λ at rest. key_of p (key_at (drop at s)))

  unfoldable pub versions : List ℕ → List Version
  versions = listed s anything 14 (λ at rest. version_of p (version_at (drop at s)))
