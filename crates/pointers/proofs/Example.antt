-- Whole answers of the check of pointers on bytes, computed, and the theorems applied to two of them. Assumes nothing.
use mathlib.Core.Path.{◌≡◌, refl}
use mathlib.Core.List.{List, [], ◌∷◌, ◌++◌}
use mathlib.Core.Bool.{Bool, true, ◌&&◌, cond}
use Prim.Native.Nat.{ℕ, suc}
use native.Mathlib.Omega.{arith}
use borrow.Author.Tests.{eqb-true}
use Prim.Native.String.{String}
use lib.Dec.{eqb}
use lib.ListN.{length, take}
use Rattle.record.specs.Base.{Str, bytes, eqs, is_some, or_else, or_option, map_option, find, first, any}
use Rattle.record.specs.Scalars.{scalar_in, prim_size, built_in}
use Rattle.record.specs.Le.{u16_at, u32_at, u64_at}
use Rattle.record.specs.Stretch.{text_of}
use Rattle.record.specs.Operands.{text_at, opt_text, opt_text_at, flag_at, opt_number_at}
use Rattle.record.specs.Commands.{operands, wide, widths, width_with, width_of, command_of, step_at, commands_from, commands_at}
use Rattle.record.specs.Lists.{listed, heads, constants, aliases, values, enums, members, bitfields, keys, fields, structs, variants, families, unstored, versions}
use Rattle.record.specs.Steps.{alias_in, enum_in, bitfield_in, struct_in, family_in}
use Rattle.record.specs.Seek.{places_of}
use Rattle.record.specs.Kind.{words, kind_of}
use Rattle.record.specs.Kind as Kind
use Rattle.record.specs.Shapes.{enum_size, alias_size, bitfield_size, sized, scalar_size, size_as, shape_size, place_of, places, plain, fam_prefix}
use Rattle.record.specs.Owner.{referenced_as, referenced}
use Rattle.record.specs.Judge.{if_absent, flag_fault, operand_fault, faults_from, follows, may_stand, parent_after, ready, judged_with, judged_at}
use Rattle.texts.specs.Utf8.{inside, is_tail, utf81, utf82, utf83, utf84, char_of, char_length, is_control, letter_length, odd_after, odd_place, no_tail}
use Rattle.record.specs.Letters.{odd_letter}
use Rattle.record.specs.Reading.{Rec, read, rec, release_of, unreleased_of, schema_from, opened_at, opened, large, vast, onto, continued, parse, parsed, stream_limit, pool_limit, vast_or, sizes_of, concluded, reading}
use Rattle.record.specs.Schema.{Schema}
use Rattle.record.specs.declared.refusal.Side.TheVariants.{Current}
use Rattle.record.proofs.Basics.{both}
use Rattle.layout.specs.Answer.{refusal_of}
use Rattle.pointers.specs.Rule.{AllPoint, FirstBroken}
use Rattle.pointers.proofs.Acceptance.{accepts, first-broken, broken-readable}
use Rattle.pointers.specs.Pointers.{field_places, name_fault, is_struct, is_family, pointee_fault, field_fault, or_next, first_fault, pointers_read, pointers}

-- writing a record: a text is where the pool has it first
pub pool : Str
pool = bytes "0.10.0 struct_ptr_array_ptr struct_array_ptr tagged_fam_ptr simple_fam_ptr head next tile gone fam tag len u8 e"

place_in : Str → Str → ℕ
place_in w [] = 0
place_in w (b ∷ p) = cond (eqs (take (length w) (b ∷ p)) w) 0 (suc (place_in w p))

pub t : String → Str
unfolding pool place_in
t w = place_in (bytes w) pool ∷ 0 ∷ length (bytes w) ∷ []

-- an absent text, and no number
pub o : Str
o = 255 ∷ 255 ∷ 0 ∷ []

no : Str
no = 0 ∷ 0 ∷ 0 ∷ 0 ∷ 0 ∷ []

-- the structure head with one field, at 15, of this kind, type and element; then the structure tile and the family fam
unfoldable pub stream : String → Str → Str → Str
unfolding t o no
stream kind ty element =
    1 ∷ t "0.10.0" ++ 0 ∷ []
    ++ 8 ∷ t "head" ++ o ++ o
    ++ 11 ∷ t "next" ++ t kind ++ ty ++ element ++ no ++ no ++ no ++ no
    ++ 8 ∷ t "tile" ++ o ++ o
    ++ 9 ∷ t "fam" ++ t "tag" ++ t "e" ++ t "len" ++ t "u8" ++ 1 ∷ []
    ++ 15 ∷ []

-- the answer has this number and this place, and its side and its length are 0
unfoldable pub says : String → Str → Str → ℕ → ℕ → Bool
unfolding bytes eqs is_some or_else or_option map_option find first any scalar_in prim_size built_in u16_at u32_at u64_at text_of text_at opt_text opt_text_at
    flag_at opt_number_at operands wide widths width_with width_of command_of step_at commands_from commands_at
    listed heads constants aliases values enums members bitfields keys fields structs variants families unstored versions
    alias_in enum_in bitfield_in struct_in family_in places_of words kind_of Kind.kind_among Kind.of_length
    enum_size alias_size bitfield_size sized scalar_size size_as shape_size place_of places plain fam_prefix referenced_as referenced
    if_absent flag_fault operand_fault faults_from follows may_stand parent_after ready judged_with judged_at
    inside is_tail utf81 utf82 utf83 utf84 char_of char_length is_control letter_length odd_after odd_place no_tail odd_letter
    release_of unreleased_of schema_from opened_at opened large vast onto continued parse parsed stream_limit pool_limit vast_or sizes_of concluded reading
    refusal_of name_fault is_struct is_family pointee_fault field_fault or_next first_fault pointers_read pointers stream pool t o
says kind ty element number place =
    let a = pointers (rec (stream kind ty element) pool built_in) in
    eqb a.number number && (eqb a.place place && eqb a.side 0 && eqb a.len 0)

-- the numbers of the cases that fail
unfoldable pub failing : ℕ → List Bool → List ℕ
failing n [] = []
failing n (b ∷ bs) = cond b (failing (suc n) bs) (n ∷ failing (suc n) bs)

pub cases : List Bool
unfolding t o
cases =
    -- a structure, declared after the pointer; nothing of the name; only a family; no name, and the element does not count
    says "struct_ptr" (t "tile") o 0 0
    ∷ says "struct_ptr" (t "gone") o 59 15
    ∷ says "struct_ptr" (t "fam") o 60 15
    ∷ says "struct_ptr" o (t "tile") 59 15
    -- arrays name by their element, and the type does not count
    ∷ says "struct_array_ptr" o (t "tile") 0 0
    ∷ says "struct_array_ptr" (t "tile") o 59 15
    ∷ says "struct_ptr_array_ptr" (t "gone") (t "fam") 60 15
    -- families
    ∷ says "tagged_fam_ptr" (t "fam") o 0 0
    ∷ says "tagged_fam_ptr" (t "tile") o 60 15
    ∷ says "tagged_fam_ptr" (t "gone") o 59 15
    -- not judged: a simple family's, and a word that is no kind
    ∷ says "simple_fam_ptr" (t "gone") o 0 0
    ∷ says "struct_pt" (t "gone") o 0 0
    -- a refusal goes first: a type outside the pool
    ∷ says "struct_ptr" (255 ∷ 0 ∷ 9 ∷ []) o 4 15
    ∷ []

pub examples : failing 1 cases ≡ []
unfolding failing cases says
examples = refl

-- the theorems on two of these records ----------------------------------------------------------------------------------------------------

abbrev pub record_of : String → Str → Rec
record_of kind ty = rec (stream kind ty o) pool built_in

number-said : (kind : String) (ty : Str) (n p : ℕ) → says kind ty o n p ≡ true → (pointers (record_of kind ty)).number ≡ n
unfolding says
number-said kind ty n p h =
    let a = pointers (record_of kind ty) in
    eqb-true a.number n (both (eqb a.number n) (eqb a.place p && eqb a.side 0 && eqb a.len 0) h).0

-- the structure is declared after the pointer
pub one-accepted : (c : Schema) × (reading Current (record_of "struct_ptr" (t "tile")) ≡ read c) × AllPoint c
unfolding says
one-accepted = accepts (record_of "struct_ptr" (t "tile")) (number-said "struct_ptr" (t "tile") 0 0 refl)

-- the name is a family's alone
pub one-broken : (c : Schema) × (reading Current (record_of "struct_ptr" (t "fam")) ≡ read c)
    × FirstBroken (record_of "struct_ptr" (t "fam")) c (field_places (stream "struct_ptr" (t "fam") o)) (pointers (record_of "struct_ptr" (t "fam")))
unfolding says
one-broken =
    let n = number-said "struct_ptr" (t "fam") 60 15 refl in
    let w = broken-readable (record_of "struct_ptr" (t "fam")) (omega (arith, n)) in
    (w.0, w.1, first-broken _ w.0 w.1 (λ z. omega (arith, n, z)))
