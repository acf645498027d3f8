-- A record of a pair is read as the plan's schema: each section off its commands. Assumes nothing.
use Rattle.std.specs.Prelude.{Some, None}
use mathlib.Core.Path.{◌≡◌, refl, ◌∙◌, ap, ap₂}
use mathlib.Core.List.{List, [], ◌∷◌, ◌++◌}
use mathlib.Core.Bool.{true, false}
use Prim.Native.Nat.{ℕ, ◌+◌, ◌*◌, ◌/◌, ◌%◌}
use native.Mathlib.Omega.{arith}
use Rattle.record.specs.Base.{Str, bytes, first, or_else}
use Rattle.record.specs.Scalars.{built_in}
use Rattle.record.specs.Stretch.{text_of}
use Rattle.record.specs.Le.{u16_at, u32_at, u64_at}
use Rattle.record.specs.Operands.{text_at, opt_text, opt_text_at, flag_at, opt_number_at}
use Rattle.record.specs.Commands.{head_at, constant_at, alias_at, enum_at, bitfield_at, family_at, key_at, version_at}
use Rattle.record.specs.Lists.{opt_of, head_of, constant_of, alias_of, enum_of, bitfield_of, family_of, key_of, version_of}
use Rattle.record.specs.Reading.{release_of, unreleased_of}
use Rattle.record.specs.Schema.{Schema, integer, Const, Alias, Enum, BitField, Key, Family}
use Rattle.record.specs.declared.text.Text.{Text}
use Rattle.load.specs.Pool as W
use Rattle.load.specs.Commands.{StructCommand, structs_meant}
use Rattle.load.specs.Generator.{head_bytes, integer_bytes, vendor_bytes, version_bytes, shared_commands, struct_commands, stream_of, spare_at, other_constants, alias_list, enum_list, bitfield_list, family_list, unstored_list}
use Rattle.load.specs.Written.{listed_in, heads_in, constants_in, aliases_in, values_in, enums_in, members_in, bitfields_in, keys_in, fields_in, structs_in, variants_in, families_in, unstored_in, versions_in, schema_in}
use Rattle.load.proofs.Shared.{generation_const}
use Rattle.load.proofs.CommandLaws.{four_bytes, back_is, given, InPool}
use Rattle.load.proofs.CommandReading.{skip-structs, structs-back}

-- numbers of eight bytes, the upper four 0
eight-bytes : (n : ℕ) → n % 256 + 256 * (n / 256 % 256) + 65536 * (n / 65536 % 256 + 256 * (n / 16777216)) + 4294967296 * 0 ≡ n
eight-bytes n = omega (arith, four_bytes n)

generation-back : (n : ℕ) (x : Str) → constant_of W.pool (constant_at (integer_bytes W.t·GENERATION n 0 W.absent ++ x)) ≡ generation_const n
unfolding integer_bytes opt_text_at opt_text text_at flag_at u16_at u32_at u64_at text_of W.pool W.struct_names W.field_names W.kind_texts W.word_texts bytes generation_const
generation-back n x = λ i. record { name = bytes "GENERATION"; value = integer (eight-bytes n i); api = false; since = None }

spare-back : (n : ℕ) (x : Str) → constant_of W.pool (constant_at (integer_bytes W.t·TILE-LIMIT n 1 W.t·0·8·0 ++ x)) ≡ spare_at n
unfolding integer_bytes opt_text_at opt_text text_at flag_at u16_at u32_at u64_at text_of W.pool W.struct_names W.field_names W.kind_texts W.word_texts bytes spare_at
spare-back n x = λ i. record { name = bytes "TILE_LIMIT"; value = integer (eight-bytes n i); api = true; since = Some (bytes "0.8.0") }

version-back : (t : Text) (n : ℕ) (x : Str) → version_of W.pool (version_at (version_bytes t n ++ x)) ≡ record { struct = text_of W.pool t; version = n }
unfolding version_bytes text_at u16_at u32_at
version-back t n x = λ i. record { struct = text_of W.pool (back_is t i); version = four_bytes n i }

head-back : (t : Text) → InPool t → (x : Str) → head_of W.pool (head_at (head_bytes t ++ x)) ≡ record { release = Some (text_of W.pool t); unreleased = false }
unfolding head_bytes opt_text_at text_at flag_at u16_at
head-back t h x = (λ i. record { release = opt_of W.pool (opt_text (back_is t i)); unreleased = false }) ∙ rw (given t h)

module _ (t : Text) (n : ℕ) (ss : List StructCommand) where
  abbrev pub last : List Str
  last = integer_bytes W.t·PLUGIN-API 4 1 W.absent ∷ vendor_bytes ∷ (shared_commands ++ (version_bytes t n ∷ struct_commands ss []))

  heads-last : heads_in W.pool last ≡ []
  unfolding heads_in listed_in integer_bytes vendor_bytes shared_commands version_bytes
  heads-last = skip-structs 1 (λ x cs. head_of W.pool (head_at x)) refl refl ss

  constants-last : constants_in W.pool last ≡ other_constants
  unfolding constants_in listed_in integer_bytes vendor_bytes shared_commands version_bytes other_constants opt_text_at opt_text text_at flag_at u16_at u32_at u64_at text_of W.pool W.struct_names W.field_names W.kind_texts W.word_texts bytes or_else
  constants-last = ap (λ (z : List Const). other_constants ++ z) (skip-structs 2 (λ x cs. constant_of W.pool (constant_at x)) refl refl ss)

  aliases-last : aliases_in W.pool last ≡ alias_list
  unfolding aliases_in listed_in integer_bytes vendor_bytes shared_commands version_bytes alias_list text_at u16_at text_of W.pool W.struct_names W.field_names W.kind_texts W.word_texts bytes
  aliases-last = ap (λ (z : List Alias). alias_list ++ z) (skip-structs 3 (λ x cs. alias_of W.pool (alias_at x)) refl refl ss)

  enums-last : enums_in W.pool last ≡ enum_list
  unfolding enums_in values_in listed_in integer_bytes vendor_bytes shared_commands version_bytes enum_list opt_text_at opt_text text_at flag_at u16_at u32_at u64_at text_of W.pool W.struct_names W.field_names W.kind_texts W.word_texts bytes
  enums-last = ap (λ (z : List Enum). enum_list ++ z) (skip-structs 4 (λ x cs. enum_of W.pool (enum_at x) (values_in W.pool cs)) refl refl ss)

  bitfields-last : bitfields_in W.pool last ≡ bitfield_list
  unfolding bitfields_in members_in listed_in integer_bytes vendor_bytes shared_commands version_bytes bitfield_list opt_text_at opt_text opt_number_at text_at flag_at u16_at u32_at text_of W.pool W.struct_names W.field_names W.kind_texts W.word_texts bytes
  bitfields-last = ap (λ (z : List BitField). bitfield_list ++ z) (skip-structs 6 (λ x cs. bitfield_of W.pool (bitfield_at x) (members_in W.pool cs)) refl refl ss)

  families-last : families_in W.pool last ≡ family_list
  unfolding families_in variants_in fields_in keys_in first listed_in integer_bytes vendor_bytes shared_commands version_bytes family_list opt_text_at opt_text opt_number_at text_at flag_at u16_at u32_at text_of W.pool W.struct_names W.field_names W.kind_texts W.word_texts bytes
  families-last = ap (λ (z : List Family). family_list ++ z) (skip-structs 9 (λ x cs. family_of W.pool (family_at x) (fields_in W.pool cs) (variants_in W.pool cs)) refl refl ss)

  unstored-last : unstored_in W.pool last ≡ unstored_list
  unfolding unstored_in listed_in integer_bytes vendor_bytes shared_commands version_bytes unstored_list opt_text_at opt_text text_at u16_at text_of W.pool W.struct_names W.field_names W.kind_texts W.word_texts bytes
  unstored-last = ap (λ (z : List Key). unstored_list ++ z) (skip-structs 13 (λ x cs. key_of W.pool (key_at x)) refl refl ss)

  versions-last : versions_in W.pool last ≡ record { struct = text_of W.pool t; version = n } ∷ []
  unfolding versions_in listed_in integer_bytes vendor_bytes shared_commands version_bytes
  versions-last = ap₂ ◌∷◌ (version-back t n (stream_of (struct_commands ss []))) (skip-structs 14 (λ x cs. version_of W.pool (version_at x)) refl refl ss)

  structs-last : structs_in W.pool last ≡ structs_meant ss
  unfolding structs_in listed_in integer_bytes vendor_bytes shared_commands version_bytes
  structs-last = structs-back ss

  -- the whole record --------------------------------------------------------------------------------------------------------------------------------------

  unfoldable pub target : Text → List Const → Schema
  target release cs = record {
    scalars = built_in;
    release = Some (text_of W.pool release);
    unreleased = false;
    constants = cs;
    aliases = alias_list;
    enums = enum_list;
    bitfields = bitfield_list;
    structs = structs_meant ss;
    families = family_list;
    unstored = unstored_list;
    versions = record { struct = text_of W.pool t; version = n } ∷ [];
  }

  -- what the commands before the last ones give
  read_as : (release : Text) (cs : List Const) (l : List Str)
      → heads_in W.pool l ≡ record { release = Some (text_of W.pool release); unreleased = false } ∷ []
      → constants_in W.pool l ≡ cs → aliases_in W.pool l ≡ aliases_in W.pool last → enums_in W.pool l ≡ enums_in W.pool last → bitfields_in W.pool l ≡ bitfields_in W.pool last
      → structs_in W.pool l ≡ structs_in W.pool last → families_in W.pool l ≡ families_in W.pool last → unstored_in W.pool l ≡ unstored_in W.pool last → versions_in W.pool l ≡ versions_in W.pool last
      → schema_in W.pool l ≡ target release cs
  unfolding schema_in target release_of unreleased_of first
  read_as release cs l a b c d e f h j k = λ i. record {
    scalars = built_in;
    release = release_of (first (a i));
    unreleased = unreleased_of (first (a i));
    constants = b i;
    aliases = (c ∙ aliases-last) i;
    enums = (d ∙ enums-last) i;
    bitfields = (e ∙ bitfields-last) i;
    structs = (f ∙ structs-last) i;
    families = (h ∙ families-last) i;
    unstored = (j ∙ unstored-last) i;
    versions = (k ∙ versions-last) i;
  }

  module _ (release : Text) (p : InPool release) where
    pub means-without : schema_in W.pool (head_bytes release ∷ integer_bytes W.t·GENERATION n 0 W.absent ∷ last) ≡ target release (generation_const n ∷ other_constants)
    unfolding heads_in constants_in aliases_in enums_in bitfields_in structs_in families_in unstored_in versions_in listed_in head_bytes integer_bytes
    means-without =
        read_as release (generation_const n ∷ other_constants) (head_bytes release ∷ integer_bytes W.t·GENERATION n 0 W.absent ∷ last)
        (ap₂ ◌∷◌ (head-back release p (stream_of (integer_bytes W.t·GENERATION n 0 W.absent ∷ last))) heads-last)
        (ap₂ ◌∷◌ (generation-back n (stream_of last)) constants-last) refl refl refl refl refl refl refl

    pub means-with : (v : ℕ) → schema_in W.pool (head_bytes release ∷ integer_bytes W.t·GENERATION n 0 W.absent ∷ integer_bytes W.t·TILE-LIMIT v 1 W.t·0·8·0 ∷ last) ≡ target release (generation_const n ∷ spare_at v ∷ other_constants)
    unfolding heads_in constants_in aliases_in enums_in bitfields_in structs_in families_in unstored_in versions_in listed_in head_bytes integer_bytes
    means-with v =
        read_as release (generation_const n ∷ spare_at v ∷ other_constants) (head_bytes release ∷ integer_bytes W.t·GENERATION n 0 W.absent ∷ integer_bytes W.t·TILE-LIMIT v 1 W.t·0·8·0 ∷ last)
        (ap₂ ◌∷◌ (head-back release p (stream_of (integer_bytes W.t·GENERATION n 0 W.absent ∷ integer_bytes W.t·TILE-LIMIT v 1 W.t·0·8·0 ∷ last))) heads-last)
        (ap₂ ◌∷◌ (generation-back n (stream_of (integer_bytes W.t·TILE-LIMIT v 1 W.t·0·8·0 ∷ last))) (ap₂ ◌∷◌ (spare-back v (stream_of last)) constants-last)) refl refl refl refl refl refl refl
