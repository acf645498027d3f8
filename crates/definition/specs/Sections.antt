-- W-214: records whose sections stand in another order, over bytes. Assumes nothing.
use Rattle.std.specs.Prelude.{◌≡◌, Bool, true, false, ◌&&◌, ℕ, eqb, length, get_or}
use mathlib.Core.List.{List, [], ◌∷◌, ◌++◌, map, flatten, Forall₂, Memᴰ, Permᴰ}
use Rattle.record.specs.Base.{Str, any}
use Rattle.record.specs.Commands.{width_of}
use Rattle.record.specs.Schema.{Schema, Const, Alias, Enum, EnumValue, BitField, Member, Struct, Family, Key}
use Rattle.record.specs.Keys.{plugin_keys}
use Rattle.record.specs.Reading.{Rec, read, reading}
use Rattle.record.specs.declared.refusal.Side.{Side}
use Rattle.layout.specs.Layout.{TypeLayout, flattened}
use Rattle.definition.specs.Pass.{all_of}
use Rattle.definition.specs.Chain.{NoDup, slots_of}
use Rattle.definition.specs.Answer.{check}

-- a stream as commands ----------------------------------------------------------------------------------------------------

-- the first byte of a command
abbrev pub number : Str → ℕ
number x = get_or x 0 0

-- commands one after the other, and 0F
unfoldable pub stream_of : List Str → Str
stream_of [] = 15 ∷ []
stream_of (x ∷ xs) = x ++ stream_of xs

-- a command whose number is one of these, as long as 01 says of its number
unfoldable pub is_command : List ℕ → Str → Bool
is_command ns x = eqb (length x) (width_of (number x)) && any (eqb (number x)) ns

unfoldable pub are_commands : List ℕ → List Str → Bool
are_commands ns xs = all_of (is_command ns) xs

-- a command of the first numbers, and behind it commands of the second
abbrev pub is_group : List ℕ → List ℕ → List Str → Bool
is_group begin inside [] = false
is_group begin inside (x ∷ xs) = is_command begin x && are_commands inside xs

-- 02: "whole constants, aliases, enums with their values, bit fields with their members, structures, families, unstored keys and version
-- entries": the commands that begin a section
unfoldable pub openers : List ℕ
openers = 2 ∷ 3 ∷ 4 ∷ 6 ∷ 8 ∷ 9 ∷ 13 ∷ 14 ∷ []

-- those inside a section: value, member, variant, field, plugin key
unfoldable pub insiders : List ℕ
insiders = 5 ∷ 7 ∷ 10 ∷ 11 ∷ 12 ∷ []

-- a section, as 02 uses the word: a command that begins one, and all commands inside it
unfoldable pub is_section : List Str → Bool
is_section = is_group openers insiders

-- a record as its head, its sections and the end, as every record that can be read is (proofs/Sectioned)
pub record Sectioned (r : Rec) : Type 0 where
  pub head : Str
  pub is-head : is_command (1 ∷ []) head ≡ true
  pub sections : List (List Str)
  pub are-sections : all_of is_section sections ≡ true
  pub stream : r.stream ≡ stream_of (head ∷ flatten sections)

-- another order -----------------------------------------------------------------------------------------------------------

-- 02: "swapping two variants of a family, two enum values or two members": the parts of a section that may change places
pub data Part : Type 0 where
  value : Part
  member : Part
  variant : Part

-- the command that begins a section with such parts
unfoldable pub section_number : Part → ℕ
section_number value = 4
section_number member = 6
section_number variant = 9

-- the command that begins such a part
unfoldable pub part_number : Part → ℕ
part_number value = 5
part_number member = 7
part_number variant = 10

-- the commands that go with a section or a part and keep their order: the fields of a family or a variant, with their plugin keys
unfoldable pub field_numbers : Part → List ℕ
field_numbers value = []
field_numbers member = []
field_numbers variant = 11 ∷ 12 ∷ []

unfoldable pub is_part : Part → List Str → Bool
is_part k = is_group (part_number k ∷ []) (field_numbers k)

-- a section as its first command, its fields and its parts, as every enum, bit field and family of a record that can be read is
-- (proofs/Sectioned)
pub record Parted (k : Part) (s : List Str) : Type 0 where
  pub opener : Str
  pub is-opener : is_command (section_number k ∷ []) opener ≡ true
  pub fields : List Str
  pub are-fields : are_commands (field_numbers k) fields ≡ true
  pub parts : List (List Str)
  pub are-parts : all_of (is_part k) parts ≡ true
  pub commands : s ≡ opener ∷ fields ++ flatten parts

-- a section as it is, or with its values, members or variants in another order. 02: "Fields inside a type are not moved"
pub data PartsMoved : List Str → List Str → Type 0 where
  as-it-is : {s t : List Str} → s ≡ t → PartsMoved s t
  parts-moved : (k : Part) (x : Str) (fs : List Str) (ps qs : List (List Str)) → is_command (section_number k ∷ []) x ≡ true
      → are_commands (field_numbers k) fs ≡ true → all_of (is_part k) ps ≡ true → Permᴰ ps qs
      → PartsMoved (x ∷ fs ++ flatten ps) (x ∷ fs ++ flatten qs)

-- one list as another in some order, its elements up to a relation
pub record Shuffled {A : Type 0} (R : A → A → Type 0) (a b : List A) : Type 0 where
  pub between : List A
  pub permuted : Permᴰ a between
  pub related : Forall₂ R between b

-- 02: "Sections in another order": two records with one pool, one head and one end, the sections of the one a permutation of the other's,
-- across all kinds, each of them as it is or with its parts moved
pub record Reordered (a b : Rec) : Type 0 where
  pub pool : a.pool ≡ b.pool
  pub scalars : a.scalars ≡ b.scalars
  pub head : Str
  pub is-head : is_command (1 ∷ []) head ≡ true
  pub sections : List (List Str)
  pub are-sections : all_of is_section sections ≡ true
  pub others : List (List Str)
  pub shuffled : Shuffled PartsMoved sections others
  pub stream : a.stream ≡ stream_of (head ∷ flatten sections)
  pub other-stream : b.stream ≡ stream_of (head ∷ flatten others)

-- the premise -------------------------------------------------------------------------------------------------------------

-- 02: "no name or slot twice in its list or among the layouts". 01: "A list is one section, the fields, values, members or variants of one
-- parent, or all plugin keys together; version entries are free." Its "one section" is all constants, all aliases, and so on. Fields are not
-- moved, and a variant's name is part of its layout's, so neither has a line of its own here.
pub record NoneTwice (s : Schema) : Type 0 where
  pub constants : NoDup (map (λ (c : Const). c.name) s.constants)
  pub aliases : NoDup (map (λ (l : Alias). l.name) s.aliases)
  pub enums : NoDup (map (λ (e : Enum). e.name) s.enums)
  pub values : (e : Enum) → Memᴰ e s.enums → NoDup (map (λ (v : EnumValue). v.name) e.values)
  pub bitfields : NoDup (map (λ (b : BitField). b.name) s.bitfields)
  pub members : (b : BitField) → Memᴰ b s.bitfields → NoDup (map (λ (m : Member). m.name) b.members)
  pub structs : NoDup (map (λ (t : Struct). t.name) s.structs)
  pub families : NoDup (map (λ (m : Family). m.name) s.families)
  pub keys : NoDup (map (λ (k : Key). k.name) (plugin_keys s.structs s.unstored))
  pub slots : NoDup (slots_of s.structs)
  pub layouts : NoDup (map (λ (t : TypeLayout). t.name) (flattened s))

-- what is said ------------------------------------------------------------------------------------------------------------

-- a record that can be read
abbrev pub CanBeRead : Side → Rec → Type 0
CanBeRead side r = (s : Schema) × (reading side r ≡ read s)

-- 01: "Number 0 accepts, whatever the buffer"
abbrev pub Accepts : ℕ → Rec → Rec → Type 0
Accepts room cur rel = (check room cur rel).number ≡ 0
