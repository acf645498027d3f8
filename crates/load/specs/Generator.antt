-- The plan that a setting gives, and its records as commands: the sections that both records share come first, the structures last.
-- Assumes nothing.
use Rattle.std.specs.Prelude.{List, [], ◌∷◌, ◌++◌, true, false, ℕ, ◌-◌, ◌^◌, Option, Some, None}
use Rattle.record.specs.Base.{Str, bytes}
use Rattle.record.specs.Stretch.{text_of}
use Rattle.record.specs.Schema.{integer, words, Const, Alias, Enum, BitField, Key, Field, Family}
use Rattle.record.specs.declared.text.Text.{Text}
use Rattle.load.specs.Plan.{Plan, generation_now}
use Rattle.load.specs.Pool as W
use Rattle.load.specs.Commands.{t3, w4, v8, no, number, n5, field_bytes, field_meant, fields_meant, StructCommand, struct_bytes, structs_meant}
use Rattle.load.specs.Draws
use Rattle.load.specs.declared.outcomes.Outcome.{Outcome}
use Rattle.load.specs.declared.outcomes.Outcome.TheVariants as O
use Rattle.load.specs.declared.settings.Setting.{Setting}
use Rattle.load.specs.declared.commands.FieldCommand.{FieldCommand}

-- the sections that both records share ----------------------------------------------------------------------------------------------------------

abbrev pub since : Option Str
since = Some (bytes "0.8.0")

unfoldable pub spare_at : ℕ → Const
spare_at n = record { name = bytes "TILE_LIMIT"; value = integer n; api = true; since = since }

unfoldable pub other_constants : List Const
other_constants =
    record { name = bytes "PLUGIN_API"; value = integer 4; api = true; since = None }
    ∷ record { name = bytes "VENDOR"; value = words (bytes "menqachu"); api = false; since = None }
    ∷ []

unfoldable pub alias_list : List Alias
alias_list = record { name = bytes "ticks"; underlying = bytes "u32" } ∷ record { name = bytes "well"; underlying = bytes "u16" } ∷ []

unfoldable pub enum_list : List Enum
enum_list =
    record {
      name = bytes "filter";
      size = 1;
      api = true;
      since = since;
      values =
          record { name = bytes "dark"; number = 0; since = None }
          ∷ record { name = bytes "dapi"; number = 1; since = since }
          ∷ record { name = bytes "fitc"; number = 2; since = None }
          ∷ [];
    }
    ∷ record {
      name = bytes "mode";
      size = 2;
      api = false;
      since = None;
      values =
          record { name = bytes "idle"; number = 0; since = None }
          ∷ record { name = bytes "scan"; number = 1; since = None }
          ∷ record { name = bytes "fault"; number = 2 ^ 64 - 1; since = None }
          ∷ [];
    }
    ∷ []

unfoldable pub bitfield_list : List BitField
bitfield_list =
    record {
      name = bytes "flags";
      size = 1;
      since = since;
      members =
          record { name = bytes "lamp"; bit = 0; width = None; since = None }
          ∷ record { name = bytes "zoom"; bit = 1; width = Some 3; since = since }
          ∷ [];
    }
    ∷ []

abbrev pub family_field : Str → Str → Option Str → Option Str → Option ℕ → Option ℕ → Field
family_field n k ty el count size =
    record { name = n; kind = k; typ = ty; element = el; count = count; rows = None; cols = None; size = size; key = None }

unfoldable pub family_list : List Family
family_list =
    record {
      name = bytes "frame";
      disc_field = bytes "tag";
      disc_type = bytes "mode";
      len_field = bytes "len";
      len_type = Some (bytes "u16");
      standalone = false;
      common = family_field (bytes "seq") (bytes "scalar") (Some (bytes "u16")) None None None ∷ [];
      variants =
          record {
            disc = bytes "A";
            fields =
                family_field (bytes "gain") (bytes "scalar") (Some (bytes "u8")) None None None
                ∷ family_field (bytes "gap") (bytes "padding") None None None (Some 1)
                ∷ [];
          }
          ∷ record { disc = bytes "B"; fields = family_field (bytes "pos") (bytes "inline_array") None (Some (bytes "u16")) (Some 3) None ∷ [] }
          ∷ [];
    }
    ∷ record {
      name = bytes "legacy";
      disc_field = bytes "sort";
      disc_type = bytes "filter";
      len_field = bytes "size";
      len_type = None;
      standalone = true;
      common = family_field (bytes "old") (bytes "type_alias") (Some (bytes "ticks")) None None None ∷ [];
      variants = record { disc = bytes "C"; fields = family_field (bytes "txt") (bytes "string") None None None None ∷ [] } ∷ [];
    }
    ∷ []

unfoldable pub unstored_list : List Key
unstored_list = record { name = bytes "plate"; since = since } ∷ record { name = bytes "row"; since = since } ∷ []

-- the plan --------------------------------------------------------------------------------------------------------------------------------------

unfoldable pub plan_of : Setting → Plan
plan_of g = record {
  now = text_of W.pool (Draws.now_text g.releases);
  was = text_of W.pool (Draws.was_text g.releases);
  constant = bytes "GENERATION";
  generation = g.generation;
  spare = spare_at g.spare;
  constants = other_constants;
  aliases = alias_list;
  enums = enum_list;
  bitfields = bitfield_list;
  families = family_list;
  unstored = unstored_list;
  before = structs_meant (Draws.before_structs g);
  after = structs_meant (Draws.after_structs g);
  name = text_of W.pool (Draws.struct_name g g.root);
  slot = text_of W.pool (Draws.slot_text g.slot);
  front = fields_meant (Draws.front_fields g);
  back = fields_meant (Draws.back_fields g);
  target = field_meant (Draws.target_field g);
  retyped = field_meant (Draws.retyped_field g);
  inserted = field_meant (Draws.inserted_field g);
  added = field_meant (Draws.added_field g);
}

-- the commands ----------------------------------------------------------------------------------------------------------------------------------

unfoldable pub head_bytes : Text → Str
head_bytes release = 1 ∷ t3 release (0 ∷ [])

unfoldable pub integer_bytes : Text → ℕ → ℕ → Text → Str
integer_bytes name n api first = 2 ∷ t3 name (0 ∷ v8 n 0 (t3 W.absent (api ∷ t3 first [])))

unfoldable pub vendor_bytes : Str
vendor_bytes = 2 ∷ t3 W.t·VENDOR (1 ∷ v8 0 0 (t3 W.t·menqachu (0 ∷ t3 W.absent [])))

abbrev pub value_bytes : Text → ℕ → ℕ → Text → Str
value_bytes name low high first = 5 ∷ t3 name (v8 low high (t3 first []))

abbrev pub family_field_bytes : Text → Text → Text → Text → Option ℕ → Option ℕ → Str
family_field_bytes n k ty el count size = 11 ∷ t3 n (t3 k (t3 ty (t3 el (n5 count (n5 no (n5 no (n5 size [])))))))

unfoldable pub version_bytes : Text → ℕ → Str
version_bytes name n = 14 ∷ t3 name (w4 n [])

-- aliases, enums, bit fields, families, unstored keys: the same in every record
unfoldable pub shared_commands : List Str
shared_commands =
    (3 ∷ t3 W.t·ticks (t3 W.t·u32 []))
    ∷ (3 ∷ t3 W.t·well (t3 W.t·u16 []))
    ∷ (4 ∷ t3 W.t·filter (w4 1 (1 ∷ t3 W.t·0·8·0 [])))
    ∷ value_bytes W.t·dark 0 0 W.absent
    ∷ value_bytes W.t·dapi 1 0 W.t·0·8·0
    ∷ value_bytes W.t·fitc 2 0 W.absent
    ∷ (4 ∷ t3 W.t·mode (w4 2 (0 ∷ t3 W.absent [])))
    ∷ value_bytes W.t·idle 0 0 W.absent
    ∷ value_bytes W.t·scan 1 0 W.absent
    ∷ value_bytes W.t·fault 4294967295 4294967295 W.absent
    ∷ (6 ∷ t3 W.t·flags (w4 1 (t3 W.t·0·8·0 [])))
    ∷ (7 ∷ t3 W.t·lamp (w4 0 (n5 no (t3 W.absent []))))
    ∷ (7 ∷ t3 W.t·zoom (w4 1 (n5 (number 3) (t3 W.t·0·8·0 []))))
    ∷ (9 ∷ t3 W.t·frame (t3 W.t·tag (t3 W.t·mode (t3 W.t·len (t3 W.t·u16 (0 ∷ []))))))
    ∷ family_field_bytes W.t·seq W.k·scalar W.t·u16 W.absent no no
    ∷ (10 ∷ t3 W.t·A [])
    ∷ family_field_bytes W.t·gain W.k·scalar W.t·u8 W.absent no no
    ∷ family_field_bytes W.t·gap W.k·padding W.absent W.absent no (number 1)
    ∷ (10 ∷ t3 W.t·B [])
    ∷ family_field_bytes W.t·pos W.k·inline-array W.absent W.t·u16 (number 3) no
    ∷ (9 ∷ t3 W.t·legacy (t3 W.t·sort (t3 W.t·filter (t3 W.t·size (t3 W.absent (1 ∷ []))))))
    ∷ family_field_bytes W.t·old W.k·type-alias W.t·ticks W.absent no no
    ∷ (10 ∷ t3 W.t·C [])
    ∷ family_field_bytes W.t·txt W.k·string W.absent W.absent no no
    ∷ (13 ∷ t3 W.t·plate (t3 W.t·0·8·0 []))
    ∷ (13 ∷ t3 W.t·row (t3 W.t·0·8·0 []))
    ∷ []

-- the fields' and structures' commands before more
unfoldable pub field_commands : List FieldCommand → List Str → List Str
field_commands [] cs = cs
field_commands (f ∷ fs) cs = field_bytes f ∷ field_commands fs cs

unfoldable pub struct_commands : List StructCommand → List Str → List Str
struct_commands [] cs = cs
struct_commands (s ∷ ss) cs = struct_bytes s ∷ field_commands s.fields (struct_commands ss cs)

module _ (g : Setting) where
  unfoldable pub root_struct : List FieldCommand → StructCommand
  root_struct fs = record { name = Draws.struct_name g g.root; slot = Draws.slot_text g.slot; version = W.t·GENERATION; fields = fs }

  -- all structures, the root with these fields
  unfoldable pub all_structs : List FieldCommand → List StructCommand
  all_structs fs = Draws.before_structs g ++ (root_struct fs ∷ Draws.after_structs g)

  -- a record: its release, the constants before the shared ones, the generation's number, the root's fields
  unfoldable pub record_with : Text → List Str → ℕ → List FieldCommand → List Str
  record_with release spare n fs =
      head_bytes release
      ∷ integer_bytes W.t·GENERATION n 0 W.absent
      ∷ (spare
      ++ (integer_bytes W.t·PLUGIN-API 4 1 W.absent
      ∷ vendor_bytes
      ∷ (shared_commands ++ (version_bytes (Draws.struct_name g g.root) n ∷ struct_commands (all_structs fs) []))))

  unfoldable pub spare_command : List Str
  spare_command = integer_bytes W.t·TILE-LIMIT g.spare 1 W.t·0·8·0 ∷ []

  unfoldable pub whole_fields : List FieldCommand
  whole_fields = Draws.front_fields g ++ (Draws.target_field g ∷ Draws.back_fields g)

  unfoldable pub edited_fields : Outcome → List FieldCommand
  edited_fields O.Accepted = whole_fields ++ (Draws.added_field g ∷ [])
  edited_fields O.ConstantGone = whole_fields
  edited_fields O.FieldGone = Draws.front_fields g ++ Draws.back_fields g
  edited_fields O.FieldMoved = Draws.front_fields g ++ (Draws.inserted_field g ∷ Draws.target_field g ∷ Draws.back_fields g)
  edited_fields O.FieldResized = Draws.front_fields g ++ (Draws.retyped_field g ∷ Draws.back_fields g)
  edited_fields O.Unraised = whole_fields ++ (Draws.added_field g ∷ [])

  unfoldable pub spare_now : Outcome → List Str
  spare_now O.Accepted = spare_command
  spare_now O.ConstantGone = []
  spare_now O.FieldGone = spare_command
  spare_now O.FieldMoved = spare_command
  spare_now O.FieldResized = spare_command
  spare_now O.Unraised = spare_command

  unfoldable pub released_commands : List Str
  released_commands = record_with (Draws.was_text g.releases) spare_command g.generation whole_fields

  unfoldable pub current_commands : Outcome → List Str
  current_commands o = record_with (Draws.now_text g.releases) (spare_now o) (generation_now o g.generation) (edited_fields o)

-- 01: commands after each other, and 0F
unfoldable pub stream_of : List Str → Str
stream_of [] = 15 ∷ []
stream_of (c ∷ cs) = c ++ stream_of cs
