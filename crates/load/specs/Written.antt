-- A record as a list of its commands: where they stand, and what the lists of a record are, read off the commands themselves. Assumes nothing.
use Rattle.std.specs.Prelude.{◌≡◌, List, [], ◌∷◌, ◌++◌, Bool, true, ◌||◌, cond, ℕ, ◌+◌, eqb, length, get_or, Some}
use Rattle.record.specs.Base.{Str, first}
use Rattle.record.specs.Scalars.{built_in}
use Rattle.record.specs.Schema.{Schema, Heading, Const, Alias, Enum, EnumValue, BitField, Member, Key, Field, Struct, Variant, Family, Version}
use Rattle.record.specs.Shapes.{fam_prefix}
use Rattle.record.specs.Commands.{operands, widths}
use Rattle.record.specs.Commands.{head_at, constant_at, alias_at, enum_at, value_at, bitfield_at, member_at}
use Rattle.record.specs.Commands.{struct_at, family_at, variant_at, field_at, key_at, version_at}
use Rattle.record.specs.Judge.{may_stand, parent_after, faults_from}
use Rattle.record.specs.Lists.{head_of, constant_of, alias_of, enum_of, value_of, bitfield_of, member_of}
use Rattle.record.specs.Lists.{struct_of, family_of, variant_of, field_of, key_of, version_of}
use Rattle.record.specs.Lists.{anything, nothing, a_key, a_field}
use Rattle.record.specs.Reading.{release_of, unreleased_of}
use Rattle.record.specs.declared.command.Parent.{Parent}
use Rattle.record.specs.declared.command.Cursor.{Cursor}
use Rattle.record.specs.declared.refusal.Side.{Side}
use Rattle.record.specs.declared.judge.Fault.TheVariants.{Fine}
use Rattle.load.specs.Generator.{stream_of}

unfoldable pub opcode : Str → ℕ
opcode c = get_or c 0 0

-- the commands' places, from one on
unfoldable pub places_from : ℕ → List Str → List ℕ
places_from at [] = []
places_from at (c ∷ cs) = at ∷ places_from (at + length c) cs

abbrev pub cursor_at : ℕ → ℕ → Parent → Cursor
cursor_at at last parent = record { at = at; last = last; parent = parent }

-- a command that is whole, may stand after another, and is without fault beside a pool of n bytes
pub record Fits (side : Side) (pool : Str) (last : ℕ) (parent : Parent) (c : Str) : Type 0 where
  pub row : Str
  pub has-row : operands (opcode c) ≡ Some row
  pub whole : length c ≡ 1 + widths row
  pub stands : (at : ℕ) → may_stand (cursor_at at last parent) (opcode c) ≡ true
  pub fine : (x : Str) → faults_from side pool (c ++ x) 1 row ≡ Fine
  pub going : opcode c ≡ 15 → ⊥

abbrev pub AllFit : Side → Str → ℕ → Parent → List Str → Type 0
AllFit side pool last above [] = last ≡ 0 → ⊥
AllFit side pool last above (c ∷ cs) = Fits side pool last above c × AllFit side pool (opcode c) (parent_after above (opcode c)) cs

-- the elements that commands give, each from its bytes with all that follow, and the commands after it
unfoldable pub listed_in : {A : Type 0} → (ℕ → Bool) → ℕ → (Str → List Str → A) → List Str → List A
listed_in over b h [] = []
listed_in over b h (c ∷ cs) =
    cond (eqb (get_or (c ++ stream_of cs) 0 0) b) (h (c ++ stream_of cs) cs ∷ listed_in over b h cs)
    (cond (over (get_or (c ++ stream_of cs) 0 0)) (listed_in over b h cs) [])

module _ (p : Str) where
  unfoldable pub heads_in : List Str → List Heading
  heads_in = listed_in anything 1 (λ x cs. head_of p (head_at x))

  unfoldable pub constants_in : List Str → List Const
  constants_in = listed_in anything 2 (λ x cs. constant_of p (constant_at x))

  unfoldable pub aliases_in : List Str → List Alias
  aliases_in = listed_in anything 3 (λ x cs. alias_of p (alias_at x))

  unfoldable pub values_in : List Str → List EnumValue
  values_in = listed_in nothing 5 (λ x cs. value_of p (value_at x))

  unfoldable pub enums_in : List Str → List Enum
  enums_in = listed_in anything 4 (λ x cs. enum_of p (enum_at x) (values_in cs))

  unfoldable pub members_in : List Str → List Member
  members_in = listed_in nothing 7 (λ x cs. member_of p (member_at x))

  unfoldable pub bitfields_in : List Str → List BitField
  bitfields_in = listed_in anything 6 (λ x cs. bitfield_of p (bitfield_at x) (members_in cs))

  unfoldable pub keys_in : List Str → List Key
  keys_in = listed_in nothing 12 (λ x cs. key_of p (key_at x))

  unfoldable pub fields_in : List Str → List Field
  fields_in = listed_in a_key 11 (λ x cs. field_of p (field_at x) (first (keys_in cs)))

  unfoldable pub structs_in : List Str → List Struct
  structs_in = listed_in anything 8 (λ x cs. struct_of p (struct_at x) (fields_in cs))

  unfoldable pub variants_in : List Str → List Variant
  variants_in = listed_in a_field 10 (λ x cs. variant_of p (variant_at x) (fields_in cs))

  unfoldable pub families_in : List Str → List Family
  families_in = listed_in anything 9 (λ x cs. family_of p (family_at x) (fields_in cs) (variants_in cs))

  unfoldable pub unstored_in : List Str → List Key
  unstored_in = listed_in anything 13 (λ x cs. key_of p (key_at x))

  unfoldable pub versions_in : List Str → List Version
  versions_in = listed_in anything 14 (λ x cs. version_of p (version_at x))

  unfoldable pub schema_in : List Str → Schema
  schema_in cs = record {
    scalars = built_in;
    release = release_of (first (heads_in cs));
    unreleased = unreleased_of (first (heads_in cs));
    constants = constants_in cs;
    aliases = aliases_in cs;
    enums = enums_in cs;
    bitfields = bitfields_in cs;
    structs = structs_in cs;
    families = families_in cs;
    unstored = unstored_in cs;
    versions = versions_in cs;
  }

  -- the fields of every type that the commands open
  unfoldable pub opened_in : List Str → List (List Field)
  opened_in [] = []
  opened_in (c ∷ cs) =
      cond (eqb (get_or (c ++ stream_of cs) 0 0) 9) ((fam_prefix (family_of p (family_at (c ++ stream_of cs)) [] []) ++ fields_in cs) ∷ opened_in cs)
      (cond (eqb (get_or (c ++ stream_of cs) 0 0) 8 || eqb (get_or (c ++ stream_of cs) 0 0) 10) (fields_in cs ∷ opened_in cs) (opened_in cs))
