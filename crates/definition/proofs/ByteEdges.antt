-- Whole answers of the check on bytes, computed. Assumes nothing.
use mathlib.Core.Path.{◌≡◌, refl}
use mathlib.Core.List.{List, [], ◌∷◌, ◌++◌}
use mathlib.Core.Bool.{Bool, ◌&&◌, cond}
use Prim.Native.Nat.{ℕ, suc}
use Prim.Native.String.{String}
use lib.Dec.{eqb}
use lib.ListN.{length, take}
use Rattle.record.specs.Base.{Str, bytes, eqs, first}
use Rattle.record.specs.Scalars.{built_in}
use Rattle.record.specs.Le.{u16_at, u32_at, u64_at}
use Rattle.record.specs.Stretch.{text_of}
use Rattle.record.specs.Operands.{text_at, opt_text, opt_text_at, flag_at, opt_number_at}
use Rattle.record.specs.Commands.{operands, wide, widths, width_with, width_of, command_of, step_at, commands_from, commands_at}
use Rattle.record.specs.Lists.{listed, heads, constants, aliases, values, enums, members, bitfields, keys, fields, structs, variants, families, unstored, versions}
use Rattle.record.specs.Judge.{if_absent, flag_fault, operand_fault, faults_from, follows, may_stand, parent_after, ready, judged_with, judged_at}
use Rattle.texts.specs.Utf8.{inside, is_tail, utf81, utf82, utf83, utf84, char_of, char_length, is_control, letter_length, odd_after, odd_place, no_tail}
use Rattle.record.specs.Letters.{odd_letter}
use Rattle.record.specs.Reading.{Rec, rec, release_of, unreleased_of, schema_from, opened_at, opened, large, vast, onto, continued, parse, parsed, stream_limit, pool_limit, vast_or, sizes_of, concluded, reading}
use Rattle.layout.specs.Answer.{refusal_of, text_or}
use Rattle.definition.specs.Answer.{verdict_of, answered, check}
use Rattle.definition.proofs.Edges.{Case, failing, gives}

-- writing a record: a text is where the pool has it first
unfoldable pub pool : Str
pool = bytes "0.10.0 0.9.0 0.8.0 GEN metadata struct_ptr bitfield scalar padding enum u16 u8 head next tile skip gap new bits fam tag len m V W b x e a n"

unfoldable pub place_in : Str → Str → ℕ
place_in w [] = 0
place_in w (b ∷ p) = cond (eqs (take (length w) (b ∷ p)) w) 0 (suc (place_in w p))

unfoldable pub t : String → Str
unfolding pool place_in
t w = place_in (bytes w) pool ∷ 0 ∷ length (bytes w) ∷ []

-- an absent text, no number, and an unsigned number of four bytes
unfoldable pub o : Str
o = 255 ∷ 255 ∷ 0 ∷ []

unfoldable pub no : Str
no = 0 ∷ 0 ∷ 0 ∷ 0 ∷ 0 ∷ []

unfoldable pub w : ℕ → Str
w n = n ∷ 0 ∷ 0 ∷ 0 ∷ []

unfoldable pub field : String → String → Str → Str → Str
unfolding t o no
field n k ty size = 11 ∷ t n ++ t k ++ ty ++ o ++ no ++ no ++ no ++ size

-- a variant of this name, with one field
unfoldable pub variant : String → Str
unfolding field
variant n = 10 ∷ t n ++ field "x" "bitfield" (t "bits") no

-- a record of this release and generation, with a last field in tile, and with more after its one variant, all but the end
unfoldable pub begun : String → ℕ → Str → Str → Str
unfolding variant w
begun release generation last more =
    1 ∷ t release ++ 0 ∷ []
    ++ 2 ∷ t "GEN" ++ 0 ∷ w generation ++ w 0 ++ o ++ 0 ∷ o
    ++ 4 ∷ t "e" ++ w 1 ++ 0 ∷ o
    ++ 5 ∷ t "a" ++ 253 ∷ 255 ∷ 255 ∷ 255 ∷ 255 ∷ 255 ∷ 255 ∷ 255 ∷ o
    ++ 6 ∷ t "bits" ++ w 1 ++ t "0.8.0"
    ++ 7 ∷ t "m" ++ w 2 ++ no ++ o
    ++ 8 ∷ t "head" ++ t "metadata" ++ t "GEN"
    ++ field "next" "struct_ptr" (t "tile") no
    ++ 8 ∷ t "tile" ++ o ++ o
    ++ field "n" "scalar" (t "u16") no
    ++ field "skip" "scalar" (t "u8") no
    ++ last
    ++ 9 ∷ t "fam" ++ t "tag" ++ t "e" ++ t "len" ++ t "u8" ++ 1 ∷ []
    ++ field "b" "enum" (t "e") no
    ++ variant "V"
    ++ more

-- tile's last field: a padding, or a new field in its place
unfoldable pub gap : Str
unfolding field w
gap = field "gap" "padding" o (1 ∷ w 1)

unfoldable pub new : Str
unfolding field
new = field "new" "scalar" (t "u8") no

-- the version entry of generation 4
unfoldable pub entry : Str
unfolding t w
entry = 14 ∷ t "head" ++ w 4

unfoldable pub whole : Str → Str
whole s = s ++ 15 ∷ []

unfoldable pub written : Str → Rec
unfolding pool
written s = rec s pool built_in

-- number, side, place and message: the current stream, then the released one
unfoldable pub says : Str → Str → ℕ → ℕ → ℕ → String → Bool
unfolding gives first u16_at u32_at u64_at text_of text_at opt_text opt_text_at flag_at opt_number_at
    operands wide widths width_with width_of command_of step_at commands_from commands_at
    listed heads constants aliases values enums members bitfields keys fields structs variants families unstored versions
    if_absent flag_fault operand_fault faults_from follows may_stand parent_after ready judged_with judged_at
    inside is_tail utf81 utf82 utf83 utf84 char_of char_length is_control letter_length odd_after odd_place no_tail odd_letter
    release_of unreleased_of schema_from opened_at opened large vast onto continued parse parsed stream_limit pool_limit vast_or sizes_of concluded reading
    refusal_of text_or verdict_of answered check begun gap new entry whole written
says is was number side place text =
    let a = check 65536 (written is) (written was) in
    eqb a.number number && eqb a.side side && eqb a.place place && eqb a.len (length (bytes text)) && eqs a.text (bytes text)

pub byte-cases : List Case
byte-cases =
    -- the same layout: accepted
    record { id = 1; holds = says (whole (begun "0.10.0" 3 gap [])) (whole (begun "0.9.0" 3 gap [])) 0 0 0 "" }
    -- another layout under the same number
    ∷ record {
      id = 2;
      holds =
          says (whole (begun "0.10.0" 3 new [])) (whole (begun "0.9.0" 3 gap [])) 43 0 0
          "head is still generation 3, and tile's layout has changed since the last release - raise GEN to 4, and add a [[versions]] entry saying which release that generation ships in";
    }
    -- under the next number, with its entry
    ∷ record { id = 3; holds = says (whole (begun "0.10.0" 4 new entry)) (whole (begun "0.9.0" 3 gap [])) 0 0 0 "" }
    -- without 0F: cut, at the stream's length, on either side
    ∷ record { id = 4; holds = says (whole (begun "0.10.0" 3 gap [])) (begun "0.9.0" 3 gap []) 1 1 318 "" }
    ∷ record { id = 5; holds = says (begun "0.10.0" 3 gap []) (whole (begun "0.9.0" 3 gap [])) 1 0 318 "" }
    ∷ []

pub byte-edges : failing byte-cases ≡ []
unfolding failing byte-cases says
byte-edges = refl
