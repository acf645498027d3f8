-- Records, as bytes, with their sections in another order: they meet the premises of W-214, and what it says of them. Assumes nothing.
use mathlib.Core.Path.{◌≡◌, refl}
use mathlib.Core.List.Permᴰ
use mathlib.Core.List.Forall₂
use mathlib.Core.List.{List, [], ◌∷◌, ◌++◌, reverse, flatten}
use mathlib.Core.Bool.{true}
use Prim.Native.Nat.{ℕ}
use Prim.Native.String.{String}
use Rattle.record.specs.Base.{Str, bytes, any, with_some}
use Rattle.record.specs.Scalars.{built_in}
use Rattle.record.specs.Commands.{width_of, width_with, widths, wide, operands}
use Rattle.record.specs.Reading.{Rec, rec, schema_of}
use Rattle.definition.specs.Answer.{check}
use Rattle.definition.specs.Verdicts.{constant_changed, renamed, value_gone}
use Rattle.definition.specs.Pass.{all_of}
use Rattle.definition.specs.Chain.{slots_of}
use Rattle.definition.specs.Sections.{stream_of, is_command, are_commands, openers, insiders, is_section, value, variant, section_number, part_number, field_numbers, is_part, PartsMoved, as-it-is, parts-moved, Shuffled, Sectioned, Reordered, NoneTwice, Accepts}
use Rattle.definition.proofs.Lists.{related-refl}
use Rattle.definition.proofs.ByteEdges.{pool, place_in, t, o, no, w, field, says}
use Rattle.definition.proofs.Premises.{none_twice, none-twice-is}
use Rattle.definition.proofs.SectionsReordered.{sections-reordered, every-order}

-- the records -------------------------------------------------------------------------------------------------------------

head : String → Str
unfolding t
head release = 1 ∷ t release ++ 0 ∷ []

unfoldable pub written : String → List (List Str) → Rec
unfolding pool head
written release l = rec (stream_of (head release ∷ flatten l)) pool built_in

pub enum_value : String → ℕ → Str
unfolding t w o
enum_value n k = 5 ∷ t n ++ w k ++ w 0 ++ o

-- an enum with these values
pub enum : List (List Str) → List Str
unfolding t w o
enum vs = (4 ∷ t "e" ++ w 1 ++ 0 ∷ o) ∷ [] ++ flatten vs

pub constant : String → ℕ → List Str
unfolding t w o
constant n k = (2 ∷ t n ++ 0 ∷ w k ++ w 0 ++ o ++ 0 ∷ o) ∷ []

struct : List Str
unfolding t field
struct = (8 ∷ t "tile" ++ t "metadata" ++ t "GEN") ∷ field "n" "scalar" (t "u16") no ∷ []

-- a family with these variants
family : List (List Str) → List Str
unfolding t o
family vs = (9 ∷ t "fam" ++ t "tag" ++ t "e" ++ t "len" ++ o ++ 1 ∷ []) ∷ [] ++ flatten vs

pub values : List (List Str)
unfolding enum_value
values = (enum_value "a" 7 ∷ []) ∷ (enum_value "b" 9 ∷ []) ∷ []

-- two variants, the first with a field
variants : List (List Str)
unfolding t field
variants = ((10 ∷ t "V") ∷ field "x" "scalar" (t "u8") no ∷ []) ∷ ((10 ∷ t "W") ∷ []) ∷ []

-- a constant, an enum, a structure in a slot and a family
pub sections : List (List Str)
unfolding constant enum struct family values variants
sections = constant "GEN" 3 ∷ enum values ∷ struct ∷ family variants ∷ []

-- from the last to the first, with the values and the variants exchanged
pub others : List (List Str)
unfolding constant enum struct family values variants
others = family (reverse variants) ∷ struct ∷ enum (reverse values) ∷ constant "GEN" 3 ∷ []

sectioned : (release : String) → is_command (1 ∷ []) (head release) ≡ true → Sectioned (written release sections)
unfolding written sections constant enum struct family values variants enum_value field t w o no pool place_in
    is_command are_commands openers insiders is_section all_of flatten any width_of width_with widths wide operands bytes
sectioned release h = record { head = head release; is-head = h; sections = sections; are-sections = refl; stream = refl }

in_order : Shuffled PartsMoved sections sections
in_order = record { between = sections; permuted = Permᴰ.refl sections; related = related-refl (λ s. as-it-is refl) sections }

shuffled : Shuffled PartsMoved sections others
unfolding sections others constant enum struct family values variants enum_value field t w o no pool place_in
    is_command are_commands section_number part_number field_numbers is_part all_of flatten any width_of width_with widths wide operands bytes
shuffled = record {
  between = reverse sections;
  permuted = Permᴰ.symm (Permᴰ.reverse sections);
  related =
      Forall₂.cons (parts-moved variant _ [] variants (reverse variants) refl refl refl (Permᴰ.symm (Permᴰ.reverse variants)))
      (Forall₂.cons (as-it-is refl)
      (Forall₂.cons (parts-moved value _ [] values (reverse values) refl refl refl (Permᴰ.symm (Permᴰ.reverse values))) (Forall₂.cons (as-it-is refl) Forall₂.nil)));
}

-- what is computed --------------------------------------------------------------------------------------------------------

now-head : is_command (1 ∷ []) (head "0.9.0") ≡ true
unfolding head t pool place_in is_command any width_of width_with widths wide operands bytes
now-head = refl

was-head : is_command (1 ∷ []) (head "0.8.0") ≡ true
unfolding head t pool place_in is_command any width_of width_with widths wide operands bytes
was-head = refl

now-once : NoneTwice (schema_of (written "0.9.0" sections))
unfolding none_twice all_of slots_of with_some schema_of says written sections constant enum struct family values variants enum_value field head
    t w o no pool place_in stream_of flatten
now-once = none-twice-is (schema_of (written "0.9.0" sections)) refl

was-once : NoneTwice (schema_of (written "0.8.0" sections))
unfolding none_twice all_of slots_of with_some schema_of says written sections constant enum struct family values variants enum_value field head
    t w o no pool place_in stream_of flatten
was-once = none-twice-is (schema_of (written "0.8.0" sections)) refl

pair-accepted : Accepts 0 (written "0.9.0" sections) (written "0.8.0" sections)
unfolding says written sections constant enum struct family values variants enum_value field head t w o no pool place_in stream_of flatten
pair-accepted = refl

now-reordered : (l : List (List Str)) → Shuffled PartsMoved sections l → Reordered (written "0.9.0" sections) (written "0.9.0" l)
unfolding written sectioned
now-reordered = every-order (written "0.9.0" sections) (sectioned "0.9.0" now-head)

was-reordered : (l : List (List Str)) → Shuffled PartsMoved sections l → Reordered (written "0.8.0" sections) (written "0.8.0" l)
unfolding written sectioned
was-reordered = every-order (written "0.8.0" sections) (sectioned "0.8.0" was-head)

-- so the pair is accepted with the sections of either record in another order, and of both
pub current-reordered : Accepts 0 (written "0.9.0" others) (written "0.8.0" sections)
current-reordered =
    (sections-reordered 0 0 _ _ _ _ (now-reordered others shuffled) (was-reordered sections in_order) now-once was-once).0 pair-accepted

pub released-reordered : Accepts 0 (written "0.9.0" sections) (written "0.8.0" others)
released-reordered =
    (sections-reordered 0 0 _ _ _ _ (now-reordered sections in_order) (was-reordered others shuffled) now-once was-once).0 pair-accepted

pub both-reordered : Accepts 65536 (written "0.9.0" others) (written "0.8.0" others)
both-reordered = (sections-reordered 0 65536 _ _ _ _ (now-reordered others shuffled) (was-reordered others shuffled) now-once was-once).0 pair-accepted

-- the premise is needed: of two constants of one name the later counts, so their order does
pub twice-accepted : (check 65536 (written "0.9.0" (constant "n" 1 ∷ constant "n" 2 ∷ [])) (written "0.8.0" (constant "n" 2 ∷ []))).number ≡ 0
unfolding says written constant head t w o pool place_in stream_of flatten
twice-accepted = refl

pub twice-refused : (check 65536 (written "0.9.0" (constant "n" 2 ∷ constant "n" 1 ∷ [])) (written "0.8.0" (constant "n" 2 ∷ []))).number ≡ 21
unfolding constant_changed says written constant head t w o pool place_in stream_of flatten
twice-refused = refl

-- 02: "The first verdict may differ": a was renamed and b is gone, and the one that stood first is told
pub renamed-first : (check 65536 (written "0.9.0" (enum ((enum_value "V" 7 ∷ []) ∷ []) ∷ [])) (written "0.8.0" (enum values ∷ []))).number ≡ 24
unfolding renamed says written enum values enum_value head t w o pool place_in stream_of flatten
renamed-first = refl

pub gone-first : (check 65536 (written "0.9.0" (enum ((enum_value "V" 7 ∷ []) ∷ []) ∷ [])) (written "0.8.0" (enum (reverse values) ∷ []))).number ≡ 25
unfolding value_gone says written enum values enum_value head t w o pool place_in stream_of flatten
gone-first = refl
