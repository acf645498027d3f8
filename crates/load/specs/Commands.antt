-- Commands as bytes, and what a field's and a structure's mean over the pool. Each operand of 01 stands in front of more bytes, so that a command's
-- bytes are one explicit list. They are below 256 where a start is below 65536, a length below 256 and a number below 2 ^ 32. Assumes nothing.
use Rattle.std.specs.Prelude.{List, [], ◌∷◌, ◌++◌, cond, ℕ, ◌/◌, ◌%◌, eqb, Option, Some, None}
use Rattle.record.specs.Base.{Str}
use Rattle.record.specs.Stretch.{text_of}
use Rattle.record.specs.Operands.{opt_text}
use Rattle.record.specs.Schema.{Field, Struct}
use Rattle.record.specs.Lists.{opt_of}
use Rattle.record.specs.declared.text.Text.{Text}
use Rattle.load.specs.Pool.{pool}
use Rattle.load.specs.declared.commands.FieldCommand.{FieldCommand}

-- 01's T, W, V (as two W) and N
abbrev pub t3 : Text → Str → Str
t3 t x = t.start % 256 ∷ t.start / 256 ∷ t.len ∷ x

abbrev pub w4 : ℕ → Str → Str
w4 n x = n % 256 ∷ n / 256 % 256 ∷ n / 65536 % 256 ∷ n / 16777216 ∷ x

abbrev pub v8 : ℕ → ℕ → Str → Str
v8 low high x = w4 low (w4 high x)

-- an absent number has flag 0, and 0 for its value
abbrev pub flag_of : Option ℕ → ℕ
flag_of None = 0
flag_of (Some n) = 1

abbrev pub value_of : Option ℕ → ℕ
value_of None = 0
value_of (Some n) = n

abbrev pub n5 : Option ℕ → Str → Str
n5 n x = flag_of n ∷ w4 (value_of n) x

-- an absent number, and a number
abbrev pub no : Option ℕ
no = None

abbrev pub number : ℕ → Option ℕ
number n = Some n

-- a T and an N by themselves
unfoldable pub operand_bytes : Text → Str
operand_bytes t = t3 t []

unfoldable pub num_bytes : Option ℕ → Str
num_bytes n = n5 n []

-- 0B, a field: its four texts, its four numbers
unfoldable pub texts_bytes : FieldCommand → Str
texts_bytes f = operand_bytes f.name ++ operand_bytes f.kind ++ operand_bytes f.typ ++ operand_bytes f.element

unfoldable pub nums_bytes : FieldCommand → Str
nums_bytes f = num_bytes f.count ++ num_bytes f.rows ++ num_bytes f.cols ++ num_bytes f.size

unfoldable pub field_bytes : FieldCommand → Str
field_bytes f =
    11 ∷ t3 f.name (t3 f.kind (t3 f.typ (t3 f.element (n5 f.count (n5 f.rows (n5 f.cols (n5 f.size [])))))))

-- 08, a structure, and the fields that follow it
pub record StructCommand : Type 0 where
  pub name : Text
  pub slot : Text
  pub version : Text
  pub fields : List FieldCommand

unfoldable pub struct_bytes : StructCommand → Str
struct_bytes s = 8 ∷ t3 s.name (t3 s.slot (t3 s.version []))

abbrev pub struct_command : Text → Text → Text → StructCommand
struct_command n s v = record { name = n; slot = s; version = v; fields = [] }

-- what they mean over the pool ---------------------------------------------------------------------------------------------------------------

unfoldable pub meant_text : Text → Option Str
meant_text t = opt_of pool (opt_text t)

unfoldable pub meant_number : Option ℕ → Option ℕ
meant_number n = cond (eqb (flag_of n) 0) None (Some (value_of n))

unfoldable pub field_meant : FieldCommand → Field
field_meant f = record {
  name = text_of pool f.name;
  kind = text_of pool f.kind;
  typ = meant_text f.typ;
  element = meant_text f.element;
  count = meant_number f.count;
  rows = meant_number f.rows;
  cols = meant_number f.cols;
  size = meant_number f.size;
  key = None;
}

unfoldable pub fields_meant : List FieldCommand → List Field
fields_meant [] = []
fields_meant (f ∷ fs) = field_meant f ∷ fields_meant fs

unfoldable pub struct_meant : StructCommand → Struct
struct_meant s = record {
  name = text_of pool s.name;
  slot = meant_text s.slot;
  version = meant_text s.version;
  fields = fields_meant s.fields;
}

unfoldable pub structs_meant : List StructCommand → List Struct
structs_meant [] = []
structs_meant (s ∷ ss) = struct_meant s ∷ structs_meant ss
