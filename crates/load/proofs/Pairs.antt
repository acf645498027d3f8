-- Both records of every pair can be read, and the check of their bytes gives the wanted verdict. Assumes nothing.
use Rattle.std.specs.Prelude.{Some}
use mathlib.Core.Path.{◌≡◌, refl, sym, ◌∙◌, ap, subst}
use mathlib.Core.List.Memᴰ
use mathlib.Core.List.{List, [], ◌∷◌, ◌++◌, Memᴰ}
use mathlib.Core.Bool.{true, false}
use Prim.Native.Nat.{ℕ, suc, ◌+◌, ◌*◌, ◌≤◌}
use native.Mathlib.Omega.{arith}
use lib.ListN.{length, length-append}
use borrow.Author.Tests.{le-ltb, le-leb}
use Rattle.record.specs.Base.{Str, bytes, eqs, find, any, first, or_else, map_option}
use Rattle.record.specs.Stretch.{text_of}
use Rattle.record.specs.Le.{u16_at, u32_at}
use Rattle.record.specs.Operands.{text_at, opt_text, opt_text_at, flag_at, opt_number_at}
use Rattle.record.specs.Scalars.{built_in, scalar_in, prim_size}
use Rattle.record.specs.Steps.{enum_in, alias_in}
use Rattle.record.specs.Kind.{kind_of, words, kind_among}
use Rattle.record.specs.Schema.{Schema, Const, Field, Struct, Version}
use Rattle.record.specs.Shapes.{enum_size, alias_size, sized, size_as, scalar_size, shape_size, place_of, places, plain, fam_prefix}
use Rattle.record.specs.Reading.{Rec, rec, large, read, reading}
use Rattle.record.specs.declared.text.Text.{Text}
use Rattle.record.specs.declared.refusal.Side.{Side}
use Rattle.record.specs.declared.refusal.Side.TheVariants.{Current, Released}
use Rattle.layout.specs.Answer.{Answer, text_or}
use Rattle.definition.specs.Verdicts.{Verdict, pass, stop, verdict_number, message_of}
use Rattle.definition.specs.Answer.{verdict_of, answered, check}
use Rattle.load.specs.Plan.{outcome_number, whole, edited, root, structs_with, generation_at, generation_now, constants_with, constants_without, constants_now, entry_at, schema_with, released, current}
use Rattle.load.specs.Wanted.{wanted}
use Rattle.load.specs.Pool as W
use Rattle.load.specs.Commands.{field_bytes, StructCommand, struct_bytes, meant_text, field_meant, fields_meant, struct_meant, structs_meant}
use Rattle.load.specs.Draws
use Rattle.load.specs.Draws.{setting_of}
use Rattle.load.specs.Range.{InRange}
use Rattle.load.specs.Generator.{plan_of, spare_at, other_constants, alias_list, enum_list, bitfield_list, family_list, unstored_list, head_bytes, integer_bytes, vendor_bytes, version_bytes, shared_commands, field_commands, struct_commands, root_struct, all_structs, record_with, spare_command, whole_fields, edited_fields, spare_now, released_commands, current_commands, stream_of}
use Rattle.load.specs.Written.{listed_in, keys_in, fields_in, opened_in}
use Rattle.load.proofs.Layouts.{size_same}
use Rattle.load.proofs.Shared.{generation_const}
use Rattle.load.proofs.Generated.{in-range, met}
use Rattle.load.proofs.Outcome.{wanted-number}
use Rattle.load.proofs.Listing.{slim}
use Rattle.load.proofs.RoundTrip.{reads}
use Rattle.load.proofs.CommandLaws.{InPool, given}
use Rattle.load.proofs.CommandReading.{fields_back}
use Rattle.load.proofs.CommandRange.{was-in, now-in, slot-in, struct-in}
use Rattle.load.proofs.RecordFits.{fit-with, fit-without}
use Rattle.load.proofs.RecordMeans.{target, means-with, means-without}
use Rattle.load.proofs.RecordRange.{AllGood, StructGood, whole-good, edited-good, whole-count, edited-few, all-good, all-count}
use Rattle.load.specs.declared.outcomes.Outcome.{Outcome}
use Rattle.load.specs.declared.outcomes.Outcome.TheVariants as O
use Rattle.load.specs.declared.settings.Setting.{Setting}
use Rattle.load.specs.declared.commands.FieldCommand.{FieldCommand}

-- rows mean what the plan has ------------------------------------------------------------------------------------------------------------------------------------

fields-append : (l k : List FieldCommand) → fields_meant (l ++ k) ≡ fields_meant l ++ fields_meant k
unfolding fields_meant
fields-append [] k = refl
fields-append (f ∷ l) k = ap (λ (x : List Field). field_meant f ∷ x) (fields-append l k)

structs-append : (l k : List StructCommand) → structs_meant (l ++ k) ≡ structs_meant l ++ structs_meant k
unfolding structs_meant
structs-append [] k = refl
structs-append (f ∷ l) k = ap (λ (x : List Struct). struct_meant f ∷ x) (structs-append l k)

module _ (g : Setting) where
  pub whole-plan : fields_meant (whole_fields g) ≡ whole (plan_of g)
  unfolding whole_fields whole plan_of fields_meant
  whole-plan = fields-append (Draws.front_fields g) (Draws.target_field g ∷ Draws.back_fields g)

  edited-plan : (o : Outcome) → fields_meant (edited_fields g o) ≡ edited o (plan_of g)
  unfolding edited_fields edited plan_of fields_meant
  edited-plan O.Accepted = fields-append (whole_fields g) (Draws.added_field g ∷ []) ∙ ap (λ (x : List Field). x ++ (field_meant (Draws.added_field g) ∷ [])) whole-plan
  edited-plan O.ConstantGone = whole-plan
  edited-plan O.FieldGone = fields-append (Draws.front_fields g) (Draws.back_fields g)
  edited-plan O.FieldMoved = fields-append (Draws.front_fields g) (Draws.inserted_field g ∷ Draws.target_field g ∷ Draws.back_fields g)
  edited-plan O.FieldResized = fields-append (Draws.front_fields g) (Draws.retyped_field g ∷ Draws.back_fields g)
  edited-plan O.Unraised = fields-append (whole_fields g) (Draws.added_field g ∷ []) ∙ ap (λ (x : List Field). x ++ (field_meant (Draws.added_field g) ∷ [])) whole-plan

  root-slot : meant_text (Draws.slot_text g.slot) ≡ Some (text_of W.pool (Draws.slot_text g.slot))
  unfolding meant_text
  root-slot = rw (given (Draws.slot_text g.slot) (slot-in g.slot))

  root-constant : meant_text W.t·GENERATION ≡ Some (bytes "GENERATION")
  unfolding meant_text opt_text text_of W.pool W.struct_names W.field_names W.kind_texts W.word_texts bytes
  root-constant = refl

  structs-plan : (fs : List FieldCommand) → structs_meant (all_structs g fs) ≡ structs_with (plan_of g) (fields_meant fs)
  unfolding all_structs structs_with plan_of root root_struct structs_meant struct_meant
  structs-plan fs =
      structs-append (Draws.before_structs g) (root_struct g fs ∷ Draws.after_structs g)
      ∙ (λ i. structs_meant (Draws.before_structs g) ++ (record { name = text_of W.pool (Draws.struct_name g g.root); slot = root-slot i; version = root-constant i; fields = fields_meant fs } ∷ structs_meant (Draws.after_structs g)))

  target-plan : (release : Text) (n : ℕ) (cs : List Const) (fs : List FieldCommand)
      → target (Draws.struct_name g g.root) n (all_structs g fs) release cs ≡ schema_with (plan_of g) (text_of W.pool release) cs (fields_meant fs) (entry_at (plan_of g) n ∷ [])
  unfolding target schema_with plan_of entry_at
  target-plan release n cs fs = λ i. record {
    scalars = built_in;
    release = Some (text_of W.pool release);
    unreleased = false;
    constants = cs;
    aliases = alias_list;
    enums = enum_list;
    bitfields = bitfield_list;
    structs = structs-plan fs i;
    families = family_list;
    unstored = unstored_list;
    versions = record { struct = text_of W.pool (Draws.struct_name g g.root); version = n } ∷ [];
  }

-- no field ends above the limit -------------------------------------------------------------------------------------------------------------------------------------

module _ (t : Schema) where
  not-large : (at : ℕ) (fs : List Field) → ((f : Field) → Memᴰ f fs → shape_size t f ≤ 256) → at + 256 * length fs ≤ 4294967295 → any large (places t at fs) ≡ false
  unfolding any large places place_of
  not-large at [] h b = refl
  not-large at (f ∷ fs) h b =
      let z = h f (Memᴰ.head refl) in
      rw (le-ltb 4294967295 (at + shape_size t f) (omega arith)) (not-large (at + shape_size t f) fs (λ x m. h x (Memᴰ.tail m)) (omega arith))

  -- a field's command opens no type
  opened-fields : (fs : List FieldCommand) (cs : List Str) → opened_in W.pool (field_commands fs cs) ≡ opened_in W.pool cs
  unfolding opened_in field_commands field_bytes
  opened-fields [] cs = refl
  opened-fields (f ∷ fs) cs = opened-fields fs cs

  slim-structs : (ss : List StructCommand) → ((s : StructCommand) → Memᴰ s ss → any large (places t 0 (fields_meant s.fields)) ≡ false) → slim t (opened_in W.pool (struct_commands ss [])) ≡ true
  unfolding slim opened_in struct_commands struct_bytes
  slim-structs [] h = refl
  slim-structs (s ∷ ss) h =
      rw (fields_back s.fields ss, h s (Memᴰ.head refl), opened-fields s.fields (struct_commands ss [])) (slim-structs ss (λ x m. h x (Memᴰ.tail m)))

-- the fields of the structures, in any record of the plan
module _ (g : Setting) (r : Str) (cs : List Const) (fs : List Field) (vs : List Version) where
  abbrev T : Schema
  T = schema_with (plan_of g) r cs fs vs

  meant_small : (l : List FieldCommand) → AllGood g l → (f : Field) → Memᴰ f (fields_meant l) → shape_size T f ≤ 256
  unfolding fields_meant
  meant_small [] h f m = absurd (Memᴰ.not-nil m)
  meant_small (x ∷ l) h f (Memᴰ.head e) =
      subst (λ (n : ℕ). n ≤ 256) (sym (ap (shape_size T) e ∙ size_same (plan_of g) r cs fs vs (field_meant x))) (h x (Memᴰ.head refl)).small
  meant_small (x ∷ l) h f (Memᴰ.tail m) = meant_small l (λ y i. h y (Memᴰ.tail i)) f m

  meant-count : (l : List FieldCommand) → length (fields_meant l) ≡ length l
  unfolding fields_meant
  meant-count [] = refl
  meant-count (x ∷ l) = ap suc (meant-count l)

  struct-slim : (s : StructCommand) → StructGood g s → any large (places T 0 (fields_meant s.fields)) ≡ false
  struct-slim s h = not-large T 0 (fields_meant s.fields) (meant_small s.fields h.good) (let a = meant-count s.fields in let b = h.few in omega arith)

  module _ (t : Text) (n : ℕ) (ss : List StructCommand) (h : (s : StructCommand) → Memᴰ s ss → StructGood g s) where
    abbrev end : List Str
    end = integer_bytes W.t·PLUGIN-API 4 1 W.absent ∷ vendor_bytes ∷ (shared_commands ++ (version_bytes t n ∷ struct_commands ss []))

    -- the families' types, computed
    slim-end : slim T (opened_in W.pool end) ≡ true
    unfolding slim opened_in integer_bytes vendor_bytes shared_commands version_bytes fields_in keys_in listed_in first any large places place_of shape_size size_as scalar_size sized enum_size enum_in alias_size alias_in
        map_option or_else find kind_of kind_among words eqs fam_prefix plain prim_size scalar_in built_in schema_with plan_of enum_list alias_list opt_text_at opt_text opt_number_at text_at flag_at u16_at u32_at text_of W.pool W.struct_names W.field_names W.kind_texts W.word_texts bytes
    slim-end = slim-structs T ss (λ s m. struct-slim s (h s m))

    slim-without : (release : Text) → slim T (opened_in W.pool (head_bytes release ∷ integer_bytes W.t·GENERATION n 0 W.absent ∷ end)) ≡ true
    unfolding opened_in head_bytes integer_bytes
    slim-without release = slim-end

    slim-with : (release : Text) (v : ℕ) → slim T (opened_in W.pool (head_bytes release ∷ integer_bytes W.t·GENERATION n 0 W.absent ∷ integer_bytes W.t·TILE-LIMIT v 1 W.t·0·8·0 ∷ end)) ≡ true
    unfolding opened_in head_bytes integer_bytes
    slim-with release v = slim-end

-- the length of a stream -----------------------------------------------------------------------------------------------------------------------------------------------

unfoldable pub total : List Str → ℕ
total [] = 0
total (c ∷ cs) = length c + total cs

stream-length : (xs cs : List Str) → length (stream_of (xs ++ cs)) ≡ total xs + length (stream_of cs)
unfolding stream_of total
stream-length [] cs = omega arith
stream-length (c ∷ xs) cs = let a = length-append c (stream_of (xs ++ cs)) in let b = stream-length xs cs in omega arith

shared-length : (cs : List Str) → length (stream_of (shared_commands ++ cs)) ≡ 429 + length (stream_of cs)
unfolding shared_commands total
shared-length cs = stream-length shared_commands cs

fields-length : (fs : List FieldCommand) (cs : List Str) → length (stream_of (field_commands fs cs)) ≡ 33 * length fs + length (stream_of cs)
unfolding field_commands stream_of field_bytes
fields-length [] cs = omega arith
fields-length (f ∷ fs) cs = let b = fields-length fs cs in omega arith

structs-length : (g : Setting) (ss : List StructCommand) → ((s : StructCommand) → Memᴰ s ss → StructGood g s) → length (stream_of (struct_commands ss [])) ≤ 604 * length ss + 1
unfolding struct_commands stream_of struct_bytes
structs-length g [] h = omega arith
structs-length g (s ∷ ss) h =
    let a = fields-length s.fields (struct_commands ss []) in
    let b = structs-length g ss (λ x m. h x (Memᴰ.tail m)) in
    let c = (h s (Memᴰ.head refl)).few in
    omega arith

module _ (g : Setting) (t release : Text) (n v : ℕ) (ss : List StructCommand) (h : (s : StructCommand) → Memᴰ s ss → StructGood g s) (k : length ss ≤ 8) where
  abbrev end' : List Str
  end' = integer_bytes W.t·PLUGIN-API 4 1 W.absent ∷ vendor_bytes ∷ (shared_commands ++ (version_bytes t n ∷ struct_commands ss []))

  end-length : length (stream_of end') ≤ 5310
  unfolding stream_of integer_bytes vendor_bytes version_bytes
  end-length =
      let a = shared-length (version_bytes t n ∷ struct_commands ss []) in
      let b = structs-length g ss h in
      omega arith

  short-without : length (stream_of (head_bytes release ∷ integer_bytes W.t·GENERATION n 0 W.absent ∷ end')) ≤ 32768
  unfolding stream_of head_bytes integer_bytes
  short-without = let a = end-length in omega arith

  short-with : length (stream_of (head_bytes release ∷ integer_bytes W.t·GENERATION n 0 W.absent ∷ integer_bytes W.t·TILE-LIMIT v 1 W.t·0·8·0 ∷ end')) ≤ 32768
  unfolding stream_of head_bytes integer_bytes
  short-with = let a = end-length in omega arith

-- each record is read, as either side -------------------------------------------------------------------------------------------------------------------------------------

module _ (side : Side) (g : Setting) (r : InRange g) (release : Text) (a : InPool release) (n : ℕ) (fs : List FieldCommand) (k : AllGood g fs) (few : length fs ≤ 18) where
  good : (s : StructCommand) → Memᴰ s (all_structs g fs) → StructGood g s
  good = all-good g r fs k few

  count : length (all_structs g fs) ≤ 8
  count = let c = all-count g r fs k few in let d = r.structs in omega arith

  named : InPool (Draws.struct_name g g.root)
  unfolding Draws.struct_name
  named = struct-in g.lengths g.root (let c = r.root in let d = r.structs in omega arith)

  without-short : length (stream_of (record_with g release [] n fs)) ≤ 32768
  unfolding record_with
  without-short = short-without g (Draws.struct_name g g.root) release n 0 (all_structs g fs) good count

  with-short : length (stream_of (record_with g release (spare_command g) n fs)) ≤ 32768
  unfolding record_with spare_command
  with-short = short-with g (Draws.struct_name g g.root) release n g.spare (all_structs g fs) good count

  read-without : reading side (rec (stream_of (record_with g release [] n fs)) W.pool built_in)
      ≡ read (schema_with (plan_of g) (text_of W.pool release) (generation_const n ∷ other_constants) (fields_meant fs) (entry_at (plan_of g) n ∷ []))
  unfolding record_with
  read-without =
      reads side (record_with g release [] n fs) (schema_with (plan_of g) (text_of W.pool release) (generation_const n ∷ other_constants) (fields_meant fs) (entry_at (plan_of g) n ∷ []))
      (fit-without side g release n (all_structs g fs) a named (λ s m. (good s m).fits))
      (short-without g (Draws.struct_name g g.root) release n 0 (all_structs g fs) good count)
      (means-without (Draws.struct_name g g.root) n (all_structs g fs) release a ∙ target-plan g release n (generation_const n ∷ other_constants) fs)
      (slim-without g (text_of W.pool release) (generation_const n ∷ other_constants) (fields_meant fs) (entry_at (plan_of g) n ∷ []) (Draws.struct_name g g.root) n (all_structs g fs) good release)

  read-with : reading side (rec (stream_of (record_with g release (spare_command g) n fs)) W.pool built_in)
      ≡ read (schema_with (plan_of g) (text_of W.pool release) (generation_const n ∷ spare_at g.spare ∷ other_constants) (fields_meant fs) (entry_at (plan_of g) n ∷ []))
  unfolding record_with spare_command
  read-with =
      reads side (record_with g release (spare_command g) n fs) (schema_with (plan_of g) (text_of W.pool release) (generation_const n ∷ spare_at g.spare ∷ other_constants) (fields_meant fs) (entry_at (plan_of g) n ∷ []))
      (fit-with side g release n (all_structs g fs) a named (λ s m. (good s m).fits) g.spare)
      (short-with g (Draws.struct_name g g.root) release n g.spare (all_structs g fs) good count)
      (means-with (Draws.struct_name g g.root) n (all_structs g fs) release a g.spare ∙ target-plan g release n (generation_const n ∷ spare_at g.spare ∷ other_constants) fs)
      (slim-with g (text_of W.pool release) (generation_const n ∷ spare_at g.spare ∷ other_constants) (fields_meant fs) (entry_at (plan_of g) n ∷ []) (Draws.struct_name g g.root) n (all_structs g fs) good release g.spare)

-- the pair ------------------------------------------------------------------------------------------------------------------------------------------------------------------

module _ (g : Setting) (r : InRange g) where
  pub released-read : reading Released (rec (stream_of (released_commands g)) W.pool built_in) ≡ read (released (plan_of g))
  unfolding released_commands released constants_with generation_at plan_of generation_const
  released-read =
      read-with Released g r (Draws.was_text g.releases) (was-in g.releases) g.generation (whole_fields g) (whole-good g r) (let a = whole-count g r in let b = r.fields in omega arith)
      ∙ ap (λ (fs : List Field). read (schema_with (plan_of g) (text_of W.pool (Draws.was_text g.releases)) (generation_const g.generation ∷ spare_at g.spare ∷ other_constants) fs (entry_at (plan_of g) g.generation ∷ []))) (whole-plan g)

  now-read : (o : Outcome) (n : ℕ) → reading Current (rec (stream_of (record_with g (Draws.now_text g.releases) (spare_command g) n (edited_fields g o))) W.pool built_in)
      ≡ read (schema_with (plan_of g) (text_of W.pool (Draws.now_text g.releases)) (generation_const n ∷ spare_at g.spare ∷ other_constants) (edited o (plan_of g)) (entry_at (plan_of g) n ∷ []))
  now-read o n =
      read-with Current g r (Draws.now_text g.releases) (now-in g.releases) n (edited_fields g o) (edited-good g r o) (edited-few g r o)
      ∙ ap (λ (fs : List Field). read (schema_with (plan_of g) (text_of W.pool (Draws.now_text g.releases)) (generation_const n ∷ spare_at g.spare ∷ other_constants) fs (entry_at (plan_of g) n ∷ []))) (edited-plan g o)

  pub current-read : (o : Outcome) → reading Current (rec (stream_of (current_commands g o)) W.pool built_in) ≡ read (current o (plan_of g))
  unfolding current_commands current constants_now constants_with constants_without generation_now spare_now generation_at plan_of generation_const
  current-read O.Accepted = now-read O.Accepted (g.generation + 1)
  current-read O.ConstantGone =
      read-without Current g r (Draws.now_text g.releases) (now-in g.releases) g.generation (edited_fields g O.ConstantGone) (edited-good g r O.ConstantGone) (edited-few g r O.ConstantGone)
      ∙ ap (λ (fs : List Field). read (schema_with (plan_of g) (text_of W.pool (Draws.now_text g.releases)) (generation_const g.generation ∷ other_constants) fs (entry_at (plan_of g) g.generation ∷ []))) (edited-plan g O.ConstantGone)
  current-read O.FieldGone = now-read O.FieldGone g.generation
  current-read O.FieldMoved = now-read O.FieldMoved g.generation
  current-read O.FieldResized = now-read O.FieldResized g.generation
  current-read O.Unraised = now-read O.Unraised g.generation

  -- no stream is long
  pub released-short : length (stream_of (released_commands g)) ≤ 32768
  unfolding released_commands
  released-short = with-short Released g r (Draws.was_text g.releases) (was-in g.releases) g.generation (whole_fields g) (whole-good g r) (let a = whole-count g r in let b = r.fields in omega arith)

  now_short : (o : Outcome) (n : ℕ) → length (stream_of (record_with g (Draws.now_text g.releases) (spare_command g) n (edited_fields g o))) ≤ 32768
  now_short o n = with-short Current g r (Draws.now_text g.releases) (now-in g.releases) n (edited_fields g o) (edited-good g r o) (edited-few g r o)

  pub current-short : (o : Outcome) → length (stream_of (current_commands g o)) ≤ 32768
  unfolding current_commands generation_now spare_now
  current-short O.Accepted = now_short O.Accepted (g.generation + 1)
  current-short O.ConstantGone = without-short Current g r (Draws.now_text g.releases) (now-in g.releases) g.generation (edited_fields g O.ConstantGone) (edited-good g r O.ConstantGone) (edited-few g r O.ConstantGone)
  current-short O.FieldGone = now_short O.FieldGone g.generation
  current-short O.FieldMoved = now_short O.FieldMoved g.generation
  current-short O.FieldResized = now_short O.FieldResized g.generation
  current-short O.Unraised = now_short O.Unraised g.generation

-- the current and the released record of a seed
unfoldable pub now-record : ℕ → Outcome → Rec
now-record seed o = rec (stream_of (current_commands (setting_of seed) o)) W.pool built_in

unfoldable pub was-record : ℕ → Rec
was-record seed = rec (stream_of (released_commands (setting_of seed))) W.pool built_in

-- an answer with room for its message has the verdict's number
numbered : (room : ℕ) (v : Verdict) → length (message_of v) ≤ room → (verdict_of room v).number ≡ verdict_number v
unfolding verdict_of verdict_number message_of text_or
numbered room pass h = refl
numbered room (stop w m) h = rw (le-leb (length m) room h)

-- for every seed and outcome the check answers the wanted verdict, with its message
pub pair-checked : (seed : ℕ) (o : Outcome) (room : ℕ) → check room (now-record seed o) (was-record seed) ≡ verdict_of room (wanted o (plan_of (setting_of seed)))
unfolding check answered now-record was-record
pair-checked seed o room = rw (current-read (setting_of seed) (in-range seed) o, released-read (setting_of seed) (in-range seed), met seed o)

-- its number is the outcome's, wherever the message fits
pub pair-number : (seed : ℕ) (o : Outcome) (room : ℕ) → length (message_of (wanted o (plan_of (setting_of seed)))) ≤ room → (check room (now-record seed o) (was-record seed)).number ≡ outcome_number o
pair-number seed o room h =
    ap (λ (a : Answer). a.number) (pair-checked seed o room) ∙ numbered room (wanted o (plan_of (setting_of seed))) h ∙ wanted-number (plan_of (setting_of seed)) o
