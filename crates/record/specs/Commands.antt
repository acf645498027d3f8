-- The commands of 01, Record commands: the table of their operands, the command at a place, and the places of all commands. Assumes nothing.
use Rattle.std.specs.Prelude.{ℕ, zero, suc, ◌+◌, ◌-◌, List, [], ◌∷◌, cond, get_or, length, drop, eqb, ltb, Option, Some, None}
use Rattle.record.specs.Base.{Str, bytes}
use Rattle.record.specs.Le.{u32_at, u64_at}
use Rattle.record.specs.Operands.{text_at, opt_text_at, opt_number_at, flag_at}
use Rattle.record.specs.declared.command.Head.{Head}
use Rattle.record.specs.declared.command.Constant.{Constant}
use Rattle.record.specs.declared.command.TypeAlias.{TypeAlias}
use Rattle.record.specs.declared.command.Enum.{Enum}
use Rattle.record.specs.declared.command.Value.{Value}
use Rattle.record.specs.declared.command.Bitfield.{Bitfield}
use Rattle.record.specs.declared.command.Member.{Member}
use Rattle.record.specs.declared.command.Struct.{Struct}
use Rattle.record.specs.declared.command.Family.{Family}
use Rattle.record.specs.declared.command.Variant.{Variant}
use Rattle.record.specs.declared.command.Field.{Field}
use Rattle.record.specs.declared.command.PluginKey.{PluginKey}
use Rattle.record.specs.declared.command.Version.{Version}
use Rattle.record.specs.declared.command.Cursor.{Cursor}
use Rattle.record.specs.declared.command.Parent.TheVariants.{NoParent}
use Rattle.record.specs.declared.command.Command.{Command}
use Rattle.record.specs.declared.command.Command.TheVariants as C

-- an element of a list with the cursor after it, or none where the list ends
abbrev pub Step : Type 0 → Type 0
Step E = Option (E × Cursor)

-- 01's table. The operands of each command, in 01's letters: T a text; O a text that may be absent; ! an O that a current record requires; ? an O
-- that is required where is-text is 1; F a flag; N a number that may be absent; W four bytes; V eight.
unfoldable pub operands : ℕ → Option Str
operands b =
    cond (eqb b 1) (Some (bytes "!F"))
    (cond (eqb b 2) (Some (bytes "TFV?FO"))
    (cond (eqb b 3) (Some (bytes "TT"))
    (cond (eqb b 4) (Some (bytes "TWFO"))
    (cond (eqb b 5) (Some (bytes "TVO"))
    (cond (eqb b 6) (Some (bytes "TW!"))
    (cond (eqb b 7) (Some (bytes "TWNO"))
    (cond (eqb b 8) (Some (bytes "TOO"))
    (cond (eqb b 9) (Some (bytes "TTTTOF"))
    (cond (eqb b 10) (Some (bytes "T"))
    (cond (eqb b 11) (Some (bytes "TTOONNNN"))
    (cond (eqb b 12) (Some (bytes "T!"))
    (cond (eqb b 13) (Some (bytes "T!"))
    (cond (eqb b 14) (Some (bytes "TW"))
    (cond (eqb b 15) (Some (bytes "")) None))))))))))))))

-- 01: the bytes of an operand, F 1, W 4, V 8, N 5, a text 3
unfoldable pub wide : ℕ → ℕ
wide o =
    cond (eqb o 70) 1
    (cond (eqb o 87) 4
    (cond (eqb o 86) 8
    (cond (eqb o 78) 5 3)))

unfoldable pub widths : Str → ℕ
widths [] = 0
widths (o ∷ os) = wide o + widths os

unfoldable pub width_with : Option Str → ℕ
width_with None = 0
width_with (Some os) = 1 + widths os

-- the bytes of a command, its number among them; 0 for a number that is none's
unfoldable pub width_of : ℕ → ℕ
width_of b = width_with (operands b)

-- the operands of each command, from the bytes that begin with it
abbrev pub head_at : List ℕ → Head
head_at x = record { release = opt_text_at x 1; unreleased = flag_at x 4 }

abbrev pub constant_at : List ℕ → Constant
constant_at x = record {
  name = text_at x 1;
  is_text = flag_at x 4;
  integer = u64_at x 5;
  text = opt_text_at x 13;
  ora_api = flag_at x 16;
  first_release = opt_text_at x 17;
}

abbrev pub alias_at : List ℕ → TypeAlias
alias_at x = record { name = text_at x 1; underlying = text_at x 4 }

abbrev pub enum_at : List ℕ → Enum
enum_at x = record { name = text_at x 1; size = u32_at x 4; ora_api = flag_at x 8; first_release = opt_text_at x 9 }

abbrev pub value_at : List ℕ → Value
value_at x = record { name = text_at x 1; value = u64_at x 4; first_release = opt_text_at x 12 }

abbrev pub bitfield_at : List ℕ → Bitfield
bitfield_at x = record { name = text_at x 1; size = u32_at x 4; first_release = opt_text_at x 8 }

abbrev pub member_at : List ℕ → Member
member_at x = record { name = text_at x 1; bit = u32_at x 4; width = opt_number_at x 8; first_release = opt_text_at x 13 }

abbrev pub struct_at : List ℕ → Struct
struct_at x = record { name = text_at x 1; generation_slot = opt_text_at x 4; version_constant = opt_text_at x 7 }

abbrev pub family_at : List ℕ → Family
family_at x = record {
  name = text_at x 1;
  discriminant_field = text_at x 4;
  discriminant_type = text_at x 7;
  param_len_field = text_at x 10;
  param_len_type = opt_text_at x 13;
  standalone = flag_at x 16;
}

abbrev pub variant_at : List ℕ → Variant
variant_at x = record { discriminant = text_at x 1 }

abbrev pub field_at : List ℕ → Field
field_at x = record {
  name = text_at x 1;
  kind = text_at x 4;
  type_name = opt_text_at x 7;
  element = opt_text_at x 10;
  count = opt_number_at x 13;
  rows = opt_number_at x 18;
  cols = opt_number_at x 23;
  size = opt_number_at x 28;
}

abbrev pub key_at : List ℕ → PluginKey
key_at x = record { name = text_at x 1; first_release = opt_text_at x 4 }

abbrev pub version_at : List ℕ → Version
version_at x = record { struct_name = text_at x 1; version = u32_at x 4 }

unfoldable pub command_of : ℕ → List ℕ → Command
command_of b x =
    cond (eqb b 1) (C.Head (head_at x))
    (cond (eqb b 2) (C.Constant (constant_at x))
    (cond (eqb b 3) (C.TypeAlias (alias_at x))
    (cond (eqb b 4) (C.Enum (enum_at x))
    (cond (eqb b 5) (C.Value (value_at x))
    (cond (eqb b 6) (C.Bitfield (bitfield_at x))
    (cond (eqb b 7) (C.Member (member_at x))
    (cond (eqb b 8) (C.Struct (struct_at x))
    (cond (eqb b 9) (C.Family (family_at x))
    (cond (eqb b 10) (C.Variant (variant_at x))
    (cond (eqb b 11) (C.Field (field_at x))
    (cond (eqb b 12) (C.PluginKey (key_at x))
    (cond (eqb b 13) (C.UnstoredKey (key_at x)) (C.Version (version_at x))))))))))))))

-- the front of a stream
abbrev pub start : Cursor
start = record { at = 0; last = 0; parent = NoParent }

-- a cursor that knows its place alone
abbrev pub place : ℕ → Cursor
place at = record { at = at; last = 0; parent = NoParent }

-- the command at a place, unjudged, with the place after it; none at the end of the stream, at the end command, at a number that is no
-- command's, and where the stream ends inside the command
unfoldable pub step_at : List ℕ → ℕ → Step Command
step_at s at =
    cond (ltb at (length s))
    (cond (eqb (get_or s at 0) 15) None
    (cond (eqb (width_of (get_or s at 0)) 0) None
    (cond (ltb (length s - at) (width_of (get_or s at 0))) None
    (Some (command_of (get_or s at 0) (drop at s), place (at + width_of (get_or s at 0)))))))
    None

-- the places of the commands from a place on
unfoldable pub commands_from : ℕ → List ℕ → ℕ → List ℕ
commands_from zero s at = []
commands_from (suc n) s at = elim (step_at s at) [ Some (c, k) ↦ at ∷ commands_from n s k.at | None ↦ [] ]

unfoldable pub commands_at : List ℕ → ℕ → List ℕ
commands_at s at = commands_from (length s - at) s at
