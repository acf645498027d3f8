-- A record's bytes piece by piece, as a writer puts them. Assumes nothing.
use Rattle.std.specs.Prelude.{List, [], ◌∷◌, ◌++◌, ℕ}
use Rattle.record.specs.Base.{Str}
use Rattle.load.specs.Pool as W
use Rattle.load.specs.Commands.{field_bytes, StructCommand, struct_bytes}
use Rattle.load.specs.Draws
use Rattle.load.specs.Generator.{integer_bytes, vendor_bytes, shared_commands, version_bytes, all_structs}
use Rattle.load.specs.Load.{part}
use Rattle.load.specs.declared.outcomes.Outcome.{Outcome}
use Rattle.load.specs.declared.outcomes.Outcome.TheVariants as O
use Rattle.load.specs.declared.settings.Setting.{Setting}
use Rattle.load.specs.declared.commands.FieldCommand.{FieldCommand}

unfoldable pub fields_bytes : List FieldCommand → Str
fields_bytes [] = []
fields_bytes (f ∷ fs) = field_bytes f ++ fields_bytes fs

unfoldable pub structs_bytes : List StructCommand → Str
structs_bytes [] = []
structs_bytes (s ∷ ss) = struct_bytes s ++ (fields_bytes s.fields ++ structs_bytes ss)

unfoldable pub commands_bytes : List Str → Str
commands_bytes [] = []
commands_bytes (c ∷ cs) = c ++ commands_bytes cs

-- a structure's command and those of its fields
unfoldable pub struct_with_fields : StructCommand → Str
struct_with_fields s = struct_bytes s ++ fields_bytes s.fields

-- what an outcome makes of the target field, and what it adds at the root's end
unfoldable pub target_fields : Setting → Outcome → List FieldCommand
target_fields g O.Accepted = Draws.target_field g ∷ []
target_fields g O.ConstantGone = Draws.target_field g ∷ []
target_fields g O.FieldGone = []
target_fields g O.FieldMoved = Draws.inserted_field g ∷ Draws.target_field g ∷ []
target_fields g O.FieldResized = Draws.retyped_field g ∷ []
target_fields g O.Unraised = Draws.target_field g ∷ []

unfoldable pub last_fields : Setting → Outcome → List FieldCommand
last_fields g O.Accepted = Draws.added_field g ∷ []
last_fields g O.ConstantGone = []
last_fields g O.FieldGone = []
last_fields g O.FieldMoved = []
last_fields g O.FieldResized = []
last_fields g O.Unraised = Draws.added_field g ∷ []

-- what is the same in every record, and a record from there on
unfoldable pub shared_bytes : Str
shared_bytes = integer_bytes W.t·PLUGIN-API 4 1 W.absent ++ (vendor_bytes ++ commands_bytes shared_commands)

unfoldable pub rest_bytes : Setting → ℕ → List FieldCommand → Str
rest_bytes g n fs = shared_bytes ++ (version_bytes (Draws.struct_name g g.root) n ++ (structs_bytes (all_structs g fs) ++ (15 ∷ [])))

-- a record as two parts
unfoldable pub parts_of : Str → Str
parts_of s = part s ++ part W.pool
