-- A record's stream is its pieces one after the other. Assumes nothing.
use mathlib.Core.Path.{◌≡◌, refl, sym, ◌∙◌, ap}
use mathlib.Core.List.{List, [], ◌∷◌, ◌++◌, append_assoc}
use Prim.Native.Nat.{ℕ}
use Rattle.record.specs.Base.{Str}
use Rattle.record.specs.declared.text.Text.{Text}
use Rattle.load.specs.Pool as W
use Rattle.load.specs.Commands.{field_bytes, StructCommand, struct_bytes}
use Rattle.load.specs.Draws
use Rattle.load.specs.Generator.{head_bytes, integer_bytes, vendor_bytes, version_bytes, shared_commands, field_commands, struct_commands, all_structs, record_with, stream_of}
use Rattle.load.specs.Bytes.{fields_bytes, structs_bytes, commands_bytes, struct_with_fields}
use Rattle.load.specs.declared.settings.Setting.{Setting}
use Rattle.load.specs.declared.commands.FieldCommand.{FieldCommand}

pub fields-append : (l k : List FieldCommand) → fields_bytes (l ++ k) ≡ fields_bytes l ++ fields_bytes k
unfolding fields_bytes
fields-append [] k = refl
fields-append (f ∷ l) k = ap (λ (x : Str). field_bytes f ++ x) (fields-append l k) ∙ sym (append_assoc (field_bytes f) (fields_bytes l) (fields_bytes k))

pub structs-append : (l k : List StructCommand) → structs_bytes (l ++ k) ≡ structs_bytes l ++ structs_bytes k
unfolding structs_bytes
structs-append [] k = refl
structs-append (s ∷ l) k =
    ap (λ (x : Str). struct_bytes s ++ (fields_bytes s.fields ++ x)) (structs-append l k)
    ∙ ap (λ (x : Str). struct_bytes s ++ x) (sym (append_assoc (fields_bytes s.fields) (structs_bytes l) (structs_bytes k)))
    ∙ sym (append_assoc (struct_bytes s) (fields_bytes s.fields ++ structs_bytes l) (structs_bytes k))

-- a structure and those after it
pub structs-cons : (s : StructCommand) (l : List StructCommand) → struct_with_fields s ++ structs_bytes l ≡ structs_bytes (s ∷ l)
unfolding struct_with_fields structs_bytes
structs-cons s l = append_assoc (struct_bytes s) (fields_bytes s.fields) (structs_bytes l)

stream-fields : (fs : List FieldCommand) (cs : List Str) → stream_of (field_commands fs cs) ≡ fields_bytes fs ++ stream_of cs
unfolding stream_of field_commands fields_bytes
stream-fields [] cs = refl
stream-fields (f ∷ fs) cs = ap (λ (x : Str). field_bytes f ++ x) (stream-fields fs cs) ∙ sym (append_assoc (field_bytes f) (fields_bytes fs) (stream_of cs))

stream-structs : (ss : List StructCommand) → stream_of (struct_commands ss []) ≡ structs_bytes ss ++ (15 ∷ [])
unfolding stream_of struct_commands structs_bytes
stream-structs [] = refl
stream-structs (s ∷ ss) =
    ap (λ (x : Str). struct_bytes s ++ x) (stream-fields s.fields (struct_commands ss []) ∙ ap (λ (x : Str). fields_bytes s.fields ++ x) (stream-structs ss)
    ∙ sym (append_assoc (fields_bytes s.fields) (structs_bytes ss) (15 ∷ [])))
    ∙ sym (append_assoc (struct_bytes s) (fields_bytes s.fields ++ structs_bytes ss) (15 ∷ []))

stream-commands : (cs ds : List Str) → stream_of (cs ++ ds) ≡ commands_bytes cs ++ stream_of ds
unfolding stream_of commands_bytes
stream-commands [] ds = refl
stream-commands (c ∷ cs) ds = ap (λ (x : Str). c ++ x) (stream-commands cs ds) ∙ sym (append_assoc c (commands_bytes cs) (stream_of ds))

-- a record as a writer puts it
pub record-bytes : (g : Setting) (release : Text) (spare : List Str) (n : ℕ) (fs : List FieldCommand)
    → stream_of (record_with g release spare n fs)
    ≡ head_bytes release
    ++ (integer_bytes W.t·GENERATION n 0 W.absent
    ++ (commands_bytes spare
    ++ (integer_bytes W.t·PLUGIN-API 4 1 W.absent
    ++ (vendor_bytes
    ++ (commands_bytes shared_commands ++ (version_bytes (Draws.struct_name g g.root) n ++ (structs_bytes (all_structs g fs) ++ (15 ∷ []))))))))
unfolding record_with stream_of
record-bytes g release spare n fs =
    ap (λ (x : Str). head_bytes release ++ (integer_bytes W.t·GENERATION n 0 W.absent ++ x))
    (stream-commands spare (integer_bytes W.t·PLUGIN-API 4 1 W.absent ∷ vendor_bytes ∷ (shared_commands ++ (version_bytes (Draws.struct_name g g.root) n ∷ struct_commands (all_structs g fs) [])))
    ∙ ap (λ (x : Str). commands_bytes spare ++ (integer_bytes W.t·PLUGIN-API 4 1 W.absent ++ (vendor_bytes ++ x)))
    (stream-commands shared_commands (version_bytes (Draws.struct_name g g.root) n ∷ struct_commands (all_structs g fs) [])
    ∙ ap (λ (x : Str). commands_bytes shared_commands ++ (version_bytes (Draws.struct_name g g.root) n ++ x)) (stream-structs (all_structs g fs))))
