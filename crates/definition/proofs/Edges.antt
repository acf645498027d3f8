-- 01's (P) cases: one list, proved by one fact. Assumes nothing.
use Rattle.std.specs.Prelude.{Option, Some, None}
use mathlib.Core.Path.{◌≡◌, refl}
use mathlib.Core.List.{List, [], ◌∷◌}
use mathlib.Core.Bool.{Bool, true, false, ◌&&◌, cond}
use Prim.Native.Nat.{ℕ}
use Prim.Native.String.{String}
use lib.Dec.{eqb}
use Rattle.record.specs.Base.{Str, bytes, eqs, is_text, is_some, before, decimal, signed, or_else, or_option, map_option, find, last_or, find_last, any, filter_b, with_some}
use Rattle.record.specs.Scalars.{scalar_in, prim_size, built_in}
use Rattle.record.specs.Schema.{Schema, integer, Field, Version}
use Rattle.record.specs.Steps.{constant_in, alias_in, enum_in, value_in, bitfield_in, member_in, struct_in, family_in}
use Rattle.record.specs.Kind.{words, kind_of}
use Rattle.record.specs.Kind
use Rattle.record.specs.Release.{onto_head, parts, digit, all_digits, is_decimal, all_decimal, is_release, number, as_u32, parsed_part, release_parts, earlier, first_naming}
use Rattle.record.specs.Shapes.{enum_size, alias_size, bitfield_size, sized, scalar_size, size_as, shape_size, spaced, named, rest_as, shape_type, place_of, places, plain, fam_prefix}
use Rattle.record.specs.Owner.{struct_in_slot, slotted, has_slot, referenced_as, referenced, variant_fields, fields_in, type_fields, owned_in, unless, enter, visit, visit_all, claim, declared, claim_roots, with_name, roots_in, ownership_order, roots, root_of, owner_of}
use Rattle.record.specs.Fill.{joined}
use Rattle.layout.specs.Sorted.{insert, insert_all, sorted}
use Rattle.layout.specs.Layout.{variant_name, lay_struct, lay_family, lay_variant, lay_families, flattened, types, type_in}
use Rattle.definition.specs.Verdicts
use Rattle.definition.specs.Pass.{◌then◌, ensure, required, each, on_found, empty}
use Rattle.definition.specs.ReleaseOrder
use Rattle.definition.specs.FirstReleases
use Rattle.record.specs.Versioned
use Rattle.record.specs.Generation
use Rattle.record.specs.Keys
use Rattle.definition.specs.Constants
use Rattle.definition.specs.Enums
use Rattle.definition.specs.Bitfields
use Rattle.definition.specs.BitfieldReleases
use Rattle.definition.specs.Fields
use Rattle.definition.specs.Standalone
use Rattle.definition.specs.Coverage
use Rattle.definition.specs.Generations
use Rattle.definition.specs.Compare.{pass_list, first_of, compare}
use Rattle.record.specs.declared.release.Release.{Release}

-- a field of a kind, with perhaps a type, an element, a count and a size
fld : String → String → Option Str → Option Str → Option ℕ → Option ℕ → Field
fld n k t e c z = record {
  name = bytes n;
  kind = bytes k;
  typ = t;
  element = e;
  count = c;
  rows = None;
  cols = None;
  size = z;
  key = None;
}

-- a root whose generation number is g, over a type with these fields
sch : Option Str → ℕ → List Field → List Version → Schema
sch r g fs vs = record {
  scalars = built_in;
  release = r;
  unreleased = false;
  constants = record { name = bytes "GEN"; value = integer g; api = false; since = None } ∷ [];
  aliases = [];
  enums = record {
    name = bytes "e";
    size = 1;
    api = false;
    since = None;
    values = record { name = bytes "a"; number = 3; since = None } ∷ [];
  } ∷ [];
  bitfields = [];
  structs =
      record {
        name = bytes "head";
        slot = Some (bytes "metadata");
        version = Some (bytes "GEN");
        fields = fld "next" "struct_ptr" (Some (bytes "tile")) None None None ∷ [];
      }
      ∷ record { name = bytes "tile"; slot = None; version = None; fields = fs } ∷ [];
  families = [];
  unstored = [];
  versions = vs;
}

base : List Field
base =
    fld "n" "scalar" (Some (bytes "u16")) None None None
    ∷ fld "skip" "scalar" (Some (bytes "u8")) None None None
    ∷ fld "gap" "padding" None None None (Some 1)
    ∷ []

-- the padding's byte is a field
more : List Field
more =
    fld "n" "scalar" (Some (bytes "u16")) None None None
    ∷ fld "skip" "scalar" (Some (bytes "u8")) None None None
    ∷ fld "new" "scalar" (Some (bytes "u8")) None None None
    ∷ []

entry : ℕ → List Version
entry n = record { struct = bytes "head"; version = n } ∷ []

-- a field's size and description
shape : Field → ℕ → String → Bool
unfolding bytes eqs decimal or_else or_option map_option find scalar_in prim_size built_in words kind_of Kind.kind_among alias_in enum_in bitfield_in
    enum_size alias_size bitfield_size sized scalar_size size_as shape_size spaced named rest_as shape_type sch base fld
shape f z d = eqb (shape_size (sch None 3 base []) f) z && eqs (shape_type f) (bytes d)

no_release : Option Release → Bool
no_release None = true
no_release (Some r) = false

-- a text has no release_parts
unread : String → Bool
unfolding bytes eqs no_release onto_head parts digit all_digits is_decimal all_decimal is_release number as_u32 parsed_part release_parts
unread t = no_release (release_parts (bytes t))

-- the verdict's number: what is, then what was
unfoldable pub gives : Schema → Schema → ℕ → Bool
unfolding shape unread sch base more entry is_text is_some before signed last_or find_last any filter_b
    constant_in value_in member_in struct_in family_in earlier first_naming place_of places plain fam_prefix
    struct_in_slot slotted has_slot referenced_as referenced variant_fields fields_in type_fields owned_in unless enter visit visit_all claim declared
    claim_roots with_name roots_in ownership_order roots root_of owner_of joined insert insert_all sorted
    variant_name lay_struct lay_family lay_variant lay_families flattened types type_in
    Verdicts.word_number Verdicts.verdict_number Verdicts.not_later Verdicts.before_naming Verdicts.unraised Verdicts.unlisted Verdicts.leapt Verdicts.fell
    ◌then◌ ensure required each on_found empty
    ReleaseOrder.check_earlier ReleaseOrder.check_copy ReleaseOrder.check_release_order
    FirstReleases.check_constant_arrival FirstReleases.check_constant_arrivals FirstReleases.check_enum_arrival FirstReleases.check_enum_arrivals with_some Keys.field_keys Keys.plugin_keys FirstReleases.check_key_arrivals FirstReleases.check_first_releases
    Versioned.slot_order Versioned.versioned Generation.as_generation Generation.of_constant Generation.of_version Generation.of_struct Generation.generation_of
    Constants.constant_text Constants.last_constant Constants.holds_in Constants.held_by_any Constants.is_generation Constants.check_constant Constants.check_constants_in Constants.check_constants
    Enums.number_in Enums.check_value Enums.check_values Enums.check_enum Enums.check_enums Bitfields.member_width Bitfields.check_member Bitfields.check_members Bitfields.check_bitfield Bitfields.check_bitfields
    BitfieldReleases.check_arrived BitfieldReleases.bitfield_release BitfieldReleases.member_release BitfieldReleases.check_member_arrived
    BitfieldReleases.check_members_arrived BitfieldReleases.check_bitfield_arrived BitfieldReleases.check_bitfield_releases
    Fields.place_in Fields.check_kept Fields.check_place Fields.check_places Fields.check_type Fields.check_fields Fields.eq_place Fields.eq_places Fields.same_as Fields.changed
    Standalone.variant_names Standalone.layouts_of Standalone.check_same Standalone.check_shipped Standalone.check_shipped_all Standalone.check_standing Standalone.check_family Standalone.check_standalone
    Coverage.owning Coverage.stands_alone Coverage.check_covered Coverage.check_all_covered Coverage.under Coverage.first_under Generations.is_listed Generations.check_still Generations.check_rise Generations.check_from Generations.check_against
    Generations.check_generation Generations.check_roots Generations.check_generations pass_list first_of compare
gives is was n = eqb (Verdicts.verdict_number (compare is was)) n

at : String → Option Str
at r = Some (bytes r)

pub record Case : Type 0 where
  pub id : ℕ
  pub holds : Bool

-- the cases, with a few beside them that 01 leaves to the runs against the Rust
pub cases : List Case
cases =
    -- scalar without type: 1, "scalar". scalar u64: 0. inline_array u16, count 3: 6, "inline_array u16 x 3"
    record { id = 1; holds = shape (fld "x" "scalar" None None None None) 1 "scalar" }
    ∷ record { id = 2; holds = shape (fld "x" "scalar" (at "u64") None None None) 0 "scalar u64" }
    ∷ record { id = 3; holds = shape (fld "x" "inline_array" None (at "u16") (Some 3) None) 6 "inline_array u16 x 3" }
    -- undeclared enum 1, alias 2, bit field 0. struct_array_ptr of tile: 4, "struct_array_ptr tile"
    ∷ record { id = 4; holds = shape (fld "x" "enum" (at "zz") None None None) 1 "enum zz" }
    ∷ record { id = 5; holds = shape (fld "x" "type_alias" (at "zz") None None None) 2 "type_alias zz" }
    ∷ record { id = 6; holds = shape (fld "x" "bitfield" (at "zz") None None None) 0 "bitfield zz" }
    ∷ record { id = 7; holds = shape (fld "x" "struct_array_ptr" None (at "tile") None None) 4 "struct_array_ptr tile" }
    -- 0.10.0 is above 0.9.0. 00.8.0 and 4294967296.0.0 have no release_parts
    ∷ record { id = 8; holds = gives (sch (at "0.10.0") 3 base []) (sch (at "0.9.0") 3 base []) 0 }
    ∷ record { id = 9; holds = gives (sch (at "0.9.0") 3 base []) (sch (at "0.10.0") 3 base []) 15 }
    ∷ record { id = 10; holds = unread "00.8.0" }
    ∷ record { id = 11; holds = unread "4294967296.0.0" }
    -- copy without release: current 0.8.0 passes, 0.7.9 is 13. Copy 0.8.0 against 0.8.0: 15
    ∷ record { id = 12; holds = gives (sch (at "0.8.0") 3 base []) (sch None 3 base []) 0 }
    ∷ record { id = 13; holds = gives (sch (at "0.7.9") 3 base []) (sch None 3 base []) 13 }
    ∷ record { id = 14; holds = gives (sch (at "0.8.0") 3 base []) (sch (at "0.8.0") 3 base []) 15 }
    -- generation 3 to 3 with a change: 43. 3 to 4 with an entry: passes, changed or not. 3 to 5: 45. 3 to 2: 46
    ∷ record { id = 15; holds = gives (sch (at "0.10.0") 3 more []) (sch (at "0.9.0") 3 base []) 43 }
    ∷ record { id = 16; holds = gives (sch (at "0.10.0") 4 more (entry 4)) (sch (at "0.9.0") 3 base []) 0 }
    ∷ record { id = 17; holds = gives (sch (at "0.10.0") 4 base (entry 4)) (sch (at "0.9.0") 3 base []) 0 }
    ∷ record { id = 18; holds = gives (sch (at "0.10.0") 5 more (entry 5)) (sch (at "0.9.0") 3 base []) 45 }
    ∷ record { id = 19; holds = gives (sch (at "0.10.0") 2 base []) (sch (at "0.9.0") 3 base []) 46 }
    ∷ []

-- the numbers of the cases that do not hold
unfoldable pub failing : List Case → List ℕ
failing [] = []
failing (c ∷ cs) = cond c.holds (failing cs) (c.id ∷ failing cs)

pub edges : failing cases ≡ []
unfolding failing cases shape unread gives at
edges = refl
