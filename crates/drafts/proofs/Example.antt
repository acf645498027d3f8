-- A draft, its edits, its counts and its coming back from a shelf on bytes, computed. Assumes nothing.
use Rattle.std.specs.Prelude.{Option, Some, None}
use mathlib.Core.Path.{◌≡◌, refl}
use mathlib.Core.List.{List, [], ◌∷◌, ◌++◌}
use mathlib.Core.Bool.{Bool, false}
use Prim.Native.Nat.{ℕ}
use native.Mathlib.Omega.{arith}
use lib.ListN.{length, replicate}
use Rattle.record.specs.Base.{Str, bytes}
use Rattle.record.specs.Fill.{fronted}
use Rattle.record.specs.Scalars.{built_in}
use Rattle.record.specs.Reading.{Rec, rec, schema_of, Reading, read, reading}
use Rattle.record.specs.declared.refusal.Side.TheVariants.{Released}
use Rattle.record.proofs.Basics.{none≢some}
use Rattle.drafts.specs.Parts.{parts_of}
use Rattle.drafts.specs.Edits.{Edited, no_room, done, adding, removing, edit, count, DraftState, series}
use Rattle.drafts.specs.Shelf.{free_row, forged, back_draft}
use Rattle.drafts.specs.Calls.{Editor, Call, setting, backing, editing, calls, named}
use Rattle.record.specs.Base as Base
use Rattle.record.specs.Le as Le
use Rattle.record.specs.Stretch as Stretch
use Rattle.record.specs.Operands as Operands
use Rattle.record.specs.Commands as Commands
use Rattle.record.specs.Lists as Lists
use Rattle.record.specs.Judge as Judge
use Rattle.texts.specs.Utf8 as Utf8
use Rattle.record.specs.Letters as Letters
use Rattle.record.specs.CommandTexts as CommandTexts
use Rattle.record.specs.Reading as Reading
use Rattle.record.specs.Shapes as Shapes
use Rattle.record.specs.Kind as Kind
use Rattle.record.specs.Scalars as Scalars
use Rattle.record.specs.Fill as Fill
use Rattle.layout.specs.Layout as Layout
use Rattle.layout.specs.Sorted as Sorted
use Rattle.definition.specs.Fields as Fields
use Rattle.drafts.specs.Content as Content
use Rattle.drafts.specs.Packing as Packing
use Rattle.drafts.specs.Parts as Parts
use Rattle.drafts.specs.Addition as Addition
use Rattle.drafts.specs.Count as Count
use Rattle.drafts.specs.Edits as Edits
use Rattle.drafts.specs.Shelf as Shelf
use Rattle.drafts.specs.Calls as Calls
use Rattle.drafts.proofs.Series.{Right}
use Rattle.drafts.proofs.ShelfSeries.{Holds, Returned, series-back}

-- a text's place and length, an absent text, and no number
unfoldable pub t : ℕ → ℕ → Str
t start len = start ∷ 0 ∷ len ∷ []

unfoldable pub o : Str
o = 255 ∷ 255 ∷ 0 ∷ []

unfoldable pub no : Str
no = 0 ∷ 0 ∷ 0 ∷ 0 ∷ 0 ∷ []

-- the head, and the structure t with one field n; blanks stand between the texts, and no text covers them
unfoldable pub stream : Str
unfolding t o no
stream = 1 ∷ t 0 1 ++ 0 ∷ 8 ∷ t 13 1 ++ o ++ o ++ 11 ∷ t 15 1 ++ t 2 6 ++ t 9 3 ++ o ++ no ++ no ++ no ++ no ++ 15 ∷ []

unfoldable pub record_of : Rec
unfolding stream
record_of = rec stream (bytes "9 scalar u16 t n  ") built_in

-- the structure m without fields
unfoldable pub more : Rec
unfolding t o
more = rec (1 ∷ t 0 1 ++ 0 ∷ 8 ∷ t 1 1 ++ o ++ o ++ 15 ∷ []) (bytes "9m") []

-- both structures, with the bytes that texts cover
unfoldable pub both : Rec
unfolding t o no
both =
    rec (1 ∷ t 0 1 ++ 0 ∷ 8 ∷ t 10 1 ++ o ++ o ++ 11 ∷ t 11 1 ++ t 1 6 ++ t 7 3 ++ o ++ no ++ no ++ no ++ no ++ 8 ∷ t 12 1 ++ o ++ o ++ 15 ∷ [])
    (bytes "9scalaru16tnm") built_in

-- m alone
unfoldable pub one : Rec
unfolding t o
one = rec (1 ∷ t 0 1 ++ 0 ∷ 8 ∷ t 1 1 ++ o ++ o ++ 15 ∷ []) (bytes "9m") built_in

-- just the room that both structures need, and a byte less
unfoldable pub lent : Str
unfolding parts_of record_of
lent = parts_of record_of ++ bytes "room!"

unfoldable pub less : Str
unfolding parts_of record_of
less = parts_of record_of ++ bytes "room"

-- nothing but the head
unfoldable pub bare : Rec
unfolding t
bare = rec (1 ∷ t 0 1 ++ 0 ∷ 15 ∷ []) (bytes "9") built_in

-- an empty shelf, with just the room that the draft and the bare one need
unfoldable pub begin : Editor
unfolding lent
begin = record {
  rows = free_row ∷ free_row ∷ free_row ∷ free_row ∷ free_row ∷ free_row ∷ free_row ∷ free_row ∷ [];
  held = replicate 90 0;
  kept = record { changed = 0; buffer = lent };
}

-- the draft left under the name a, its type taken out, and what is left set under the name b
unfoldable pub three-calls : List Call
unfolding record_of
three-calls = setting (bytes "a") ∷ editing record_of (removing (bytes "t")) ∷ setting (bytes "b") ∷ []

unfoldable pub no_names : Str → Option Rec
no_names n = None

-- what 02 asks for, in this order: the draft equals its copy, and the count is 0; an addition fits into the room to the byte; with a byte less it is 10;
-- a series of an addition, the same again, which is 55, and the first structure taken out; two drafts held one behind the other, with no byte between;
-- the record that the first name holds; the draft of that name come back, with its count
pub record Computed : Type 0 where
  pub begins : ◌≡◌ {A = Edited} (count built_in record_of lent) (done 0 lent)
  pub added : ◌≡◌ {A = Edited} (edit built_in record_of 0 lent (adding more)) (done 1 (fronted lent (parts_of both)))
  pub no_room-left : ◌≡◌ {A = Edited} (edit built_in record_of 0 less (adding more)) (no_room 80 0 less)
  pub three : ◌≡◌ {A = DraftState} (series built_in record_of (record { changed = 0; buffer = lent }) (adding more ∷ adding more ∷ removing (bytes "t") ∷ []))
      (record { changed = 2; buffer = fronted (fronted lent (parts_of both)) (parts_of one) })
  pub fits : ◌≡◌ {A = Bool} (forged (length begin.held) begin.rows) false
  pub both-held : ◌≡◌ {A = Str} (calls built_in begin three-calls).held (parts_of record_of ++ parts_of bare)
  pub a-holds : ◌≡◌ {A = Option Rec} (named built_in begin no_names three-calls (bytes "a")) (Some record_of)
  pub is-back : ◌≡◌ {A = DraftState} (calls built_in begin (three-calls ++ backing record_of (bytes "a") ∷ [])).kept
      (record { changed = 0; buffer = fronted (fronted lent (parts_of bare)) (parts_of record_of) })
  pub copy_read : ◌≡◌ {A = Reading} (reading Released record_of) (read (schema_of record_of))
  pub room : ◌≡◌ {A = ℕ} (length (parts_of record_of)) 75
  pub lent-long : ◌≡◌ {A = ℕ} (length lent) 80

pub computed : Computed
unfolding Base.bytes Base.eqs Base.is_text Base.is_some Base.before Base.decimal Base.signed Base.or_else Base.or_option Base.map_option
    Base.with_some Base.first Base.find Base.last_or Base.find_last Base.any Base.filter_b Le.u16_at Le.u32_at Le.u64_at Stretch.text_of
    Operands.text_at Operands.opt_text Operands.opt_text_at Operands.flag_at Operands.opt_number_at Commands.operands Commands.wide Commands.widths
    Commands.width_with Commands.width_of Commands.command_of Commands.step_at Commands.commands_from Commands.commands_at Lists.listed
    Lists.heads Lists.constants Lists.aliases Lists.values Lists.enums Lists.members Lists.bitfields Lists.keys Lists.fields Lists.structs
    Lists.variants Lists.families Lists.unstored Lists.versions Judge.if_absent Judge.flag_fault Judge.operand_fault Judge.faults_from
    Judge.faults_of Judge.follows Judge.may_stand Judge.row_at Judge.parent_after Judge.ready Judge.judged_with Judge.judged_at Letters.odd_letter
    Utf8.inside Utf8.is_tail Utf8.utf81 Utf8.utf82 Utf8.utf83 Utf8.utf84 Utf8.char_of Utf8.char_length Utf8.is_control Utf8.letter_length
    Utf8.odd_after Utf8.odd_place Utf8.no_tail Reading.release_of Reading.unreleased_of Reading.schema_from Reading.schema_of Reading.opened_at
    Reading.opened Reading.large Reading.vast Reading.onto Reading.continued Reading.parse Reading.parsed Reading.stream_limit
    Reading.pool_limit Reading.vast_or Reading.sizes_of Reading.concluded Reading.reading Shapes.enum_size Shapes.alias_size Shapes.bitfield_size
    Shapes.sized Shapes.scalar_size Shapes.size_as Shapes.shape_size Shapes.spaced Shapes.named Shapes.rest_as Shapes.shape_type Shapes.place_of
    Shapes.places Shapes.plain Shapes.fam_prefix Shapes.capped Kind.words Kind.kind_words Kind.kind_among Kind.of_length Kind.kind_of
    Scalars.before_zero Scalars.scalar_at Scalars.scalars_from Scalars.scalars_at Scalars.scalars_of Scalars.scalar_in Scalars.prim_size
    Scalars.built_in Scalars.built_in_rows Fill.joined Fill.placed Fill.fronted Layout.variant_name Layout.lay_struct Layout.lay_family
    Layout.lay_variant Layout.lay_families Layout.flattened Layout.types Layout.type_in Sorted.insert Sorted.insert_all Sorted.sorted
    Fields.place_in Fields.check_kept Fields.check_place Fields.check_places Fields.check_type Fields.check_fields Fields.eq_place Fields.eq_places
    Fields.same_as Fields.changed Content.bytes_at CommandTexts.no_text Content.operand_at Content.operands_at Content.operands_with Content.content_as
    Content.content_at Content.contents_of CommandTexts.texts_from CommandTexts.texts_with CommandTexts.texts_at Packing.texts_of Packing.covers Packing.covered
    Packing.kept Packing.kept_before Packing.le2 Packing.operand_bytes Packing.row_bytes Packing.row_with Packing.written_at Packing.written
    Packing.moved_to Packing.packed_pool Packing.packed_commands Packing.stream_of Parts.stated Parts.part Parts.after_part Parts.held_rec
    Parts.read_held Parts.le4 Parts.parts_of Addition.is_type Addition.is_part Addition.may_add Addition.addition_as Addition.addition_at
    Addition.parse_addition Addition.concluded_addition Addition.addition Count.gone Count.count_changed Edits.refused Edits.declined
    Edits.no_room Edits.done Edits.named Edits.after_parts Edits.without Edits.removed Edits.tail Edits.name_after Edits.added Edits.settled
    Edits.added_or Edits.removed_or Edits.editing Edits.edited Edits.edit Edits.counted Edits.count Edits.series Shelf.is_held Shelf.name_of
    Shelf.is_named Shelf.good_name Shelf.held_rows Shelf.row_of Shelf.outside Shelf.meets Shelf.overlapping Shelf.forged Shelf.bytes_of
    Shelf.put_first Shelf.others Shelf.in_place Shelf.staying Shelf.closed Shelf.moved_row Shelf.filled Shelf.put Shelf.rows_with Shelf.shelve
    Shelf.set_read Shelf.has_row Shelf.set_draft Shelf.brought_back Shelf.back_from Shelf.back_draft Calls.set_of Calls.back_kept Calls.called
    Calls.calls Calls.noted Calls.named lent less more both one bare begin three-calls no_names record_of stream t o no
computed = record {
  begins = refl;
  added = refl;
  no_room-left = refl;
  three = refl;
  fits = refl;
  both-held = refl;
  a-holds = refl;
  is-back = refl;
  copy_read = refl;
  room = refl;
  lent-long = refl;
}

-- the premise of series-right holds of this draft
pub right : Right built_in record_of (record { changed = 0; buffer = lent })
right = record { afresh = computed.begins }

-- the premises of series-back hold of this series
begin-holds : Holds built_in begin.rows begin.held no_names
unfolding no_names
begin-holds = record { sound = computed.fits; each = λ n r e. absurd (none≢some e) }

pub back-again : Returned built_in record_of (calls built_in begin three-calls) (bytes "a") record_of
    (back_draft built_in record_of (calls built_in begin three-calls).rows (bytes "a") lent (calls built_in begin three-calls).held)
back-again =
    let a = computed.room in
    let b = computed.lent-long in
    series-back built_in three-calls begin no_names begin-holds (bytes "a") record_of computed.a-holds record_of (schema_of record_of) computed.copy_read lent (omega arith)
