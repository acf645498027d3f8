-- What 02 says of the draws, computed on some seeds and proved for all: seeds, counts of structures and fields, all sixteen kinds; and the streams of
-- three seeds beside those of the oracle's model. Assumes nothing.
use mathlib.Core.Path.{◌≡◌, refl, ◌∙◌, ap}
use mathlib.Core.List.Memᴰ
use mathlib.Core.List.{List, [], ◌∷◌, Memᴰ}
use mathlib.Core.Bool.{Bool, true, ◌&&◌}
use mathlib.Core.Logic.{◌⊎◌, inl, inr}
use Prim.Native.Nat.{ℕ, zero, suc, ◌+◌, ◌-◌, ◌*◌, ◌%◌}
use native.Mathlib.Omega.{arith}
use lib.ListN.{length, length-append}
use Rattle.record.specs.Base.{Str, bytes, eqs, any}
use Rattle.record.specs.Stretch.{text_of}
use Rattle.record.specs.Schema.{Field, Struct}
use Rattle.record.specs.Kind.{words, kind_words}
use Rattle.load.specs.Plan.{generation_now, whole, root, structs_with, schema_with, released}
use Rattle.load.specs.Pool as W
use Rattle.load.specs.Commands.{field_bytes, struct_bytes, field_meant, fields_meant, struct_meant, structs_meant}
use Rattle.load.specs.Draws
use Rattle.load.specs.Draws.{setting_of}
use Rattle.load.specs.Range.{InRange}
use Rattle.load.specs.Generator.{plan_of, head_bytes, integer_bytes, vendor_bytes, version_bytes, shared_commands, field_commands, struct_commands, root_struct, all_structs, record_with, spare_command, whole_fields, edited_fields, spare_now, released_commands, current_commands, stream_of}
use Rattle.load.proofs.Generated.{in-range}
use Rattle.load.specs.declared.outcomes.Outcome.TheVariants as O
use Rattle.load.specs.declared.settings.Setting.{Setting}

-- 02: the next seed and the first two draws of three seeds -------------------------------------------------------------------------------------------------------------

pub seeds-next : ◌≡◌ {A = List ℕ} (Draws.next_seed 0 ∷ Draws.next_seed 1 ∷ Draws.next_seed 2147483647 ∷ []) (12345 ∷ 1103527590 ∷ 1043980748 ∷ [])
unfolding Draws.next_seed
seeds-next = refl

-- below 32,768, then below 8 and below 16 as the two first draws are taken
abbrev draws : ℕ → List ℕ
draws s = Draws.draw s 1 32768 ∷ Draws.draw s 2 32768 ∷ Draws.draw s 1 8 ∷ Draws.draw s 2 16 ∷ []

pub first-draws : ◌≡◌ {A = List (List ℕ)} (draws 0 ∷ draws 1 ∷ draws 2147483647 ∷ [])
    ((0 ∷ 21468 ∷ 0 ∷ 12 ∷ []) ∷ (16838 ∷ 5758 ∷ 6 ∷ 14 ∷ []) ∷ (15929 ∷ 4409 ∷ 1 ∷ 9 ∷ []) ∷ [])
unfolding Draws.draw Draws.seed_after Draws.next_seed
first-draws = refl

-- structures, and fields of each, in the released record --------------------------------------------------------------------------------------------------------------

module _ (g : Setting) (r : InRange g) where
  structs-long : (s i n : ℕ) → length (structs_meant (Draws.structs_from g s i n)) ≡ n
  unfolding Draws.structs_from structs_meant
  structs-long s i zero = refl
  structs-long s i (suc n) = ap suc (structs-long (Draws.seed_after (3 * g.fields) s) (i + 1) n)

  fields-long : (s j n : ℕ) → length (fields_meant (Draws.fields_from g s j n)) ≡ n
  unfolding Draws.fields_from fields_meant
  fields-long s j zero = refl
  fields-long s j (suc n) = ap suc (fields-long (Draws.seed_after 3 s) (j + 1) n)

  fields-each : (s i n : ℕ) (t : Struct) → Memᴰ t (structs_meant (Draws.structs_from g s i n)) → length t.fields ≡ g.fields
  unfolding Draws.structs_from structs_meant Draws.plain_struct struct_meant
  fields-each s i zero t m = absurd (Memᴰ.not-nil m)
  fields-each s i (suc n) t (Memᴰ.head e) = ap (λ (x : Struct). length x.fields) e ∙ fields-long s 0 g.fields
  fields-each s i (suc n) t (Memᴰ.tail m) = fields-each (Draws.seed_after (3 * g.fields) s) (i + 1) n t m

  whole_long : length (whole (plan_of g)) ≡ g.fields
  unfolding whole plan_of Draws.front_fields Draws.back_fields
  whole_long =
      let a = fields-long (Draws.root_seed g) 0 g.target in
      let b = fields-long (Draws.seed_after (3 * g.target) (Draws.root_seed g)) (g.target + 1) (g.fields - (g.target + 1)) in
      let c = length-append (fields_meant (Draws.fields_from g (Draws.root_seed g) 0 g.target)) (field_meant (Draws.target_field g) ∷ fields_meant (Draws.fields_from g (Draws.seed_after (3 * g.target) (Draws.root_seed g)) (g.target + 1) (g.fields - (g.target + 1)))) in
      let d = r.target in
      omega arith

  pub structs-drawn : length (released (plan_of g)).structs ≡ g.structs
  unfolding released schema_with structs_with plan_of Draws.before_structs Draws.after_structs
  structs-drawn =
      let a = structs-long g.seed 0 g.root in
      let b = structs-long (Draws.seed_after (3 * (g.fields - 1)) (Draws.root_seed g)) (g.root + 1) (g.structs - (g.root + 1)) in
      let c = length-append (structs_meant (Draws.structs_from g g.seed 0 g.root)) (root (plan_of g) (whole (plan_of g)) ∷ structs_meant (Draws.structs_from g (Draws.seed_after (3 * (g.fields - 1)) (Draws.root_seed g)) (g.root + 1) (g.structs - (g.root + 1)))) in
      let d = r.root in
      omega arith

  pub fields-drawn : (t : Struct) → Memᴰ t (released (plan_of g)).structs → length t.fields ≡ g.fields
  unfolding released schema_with structs_with plan_of Draws.before_structs Draws.after_structs root
  fields-drawn t m = go (Memᴰ.append_cases (structs_meant (Draws.structs_from g g.seed 0 g.root)) m)
    where
      go : Memᴰ t (structs_meant (Draws.structs_from g g.seed 0 g.root))
          ⊎ Memᴰ t (root (plan_of g) (whole (plan_of g)) ∷ structs_meant (Draws.structs_from g (Draws.seed_after (3 * (g.fields - 1)) (Draws.root_seed g)) (g.root + 1) (g.structs - (g.root + 1)))) → length t.fields ≡ g.fields
      go (inl i) = fields-each g.seed 0 g.root t i
      go (inr (Memᴰ.head e)) = ap (λ (x : Struct). length x.fields) e ∙ whole_long
      go (inr (Memᴰ.tail i)) = fields-each (Draws.seed_after (3 * (g.fields - 1)) (Draws.root_seed g)) (g.root + 1) (g.structs - (g.root + 1)) t i

-- 02: "The first draw, below 8, plus one is the number of structures, the second, below 16, plus two the fields of each, in the released record"
pub as-drawn : (seed : ℕ) → length (released (plan_of (setting_of seed))).structs ≡ Draws.draw seed 1 8 + 1
unfolding setting_of
as-drawn seed = structs-drawn (setting_of seed) (in-range seed)

pub each-as-drawn : (seed : ℕ) (t : Struct) → Memᴰ t (released (plan_of (setting_of seed))).structs → length t.fields ≡ Draws.draw seed 2 16 + 2
unfolding setting_of
each-as-drawn seed = fields-drawn (setting_of seed) (in-range seed)

-- 02: "seeds 0 to 999 show all sixteen kinds for each outcome": seed 322 shows them by itself, in the released record, which is the same for every outcome

pub kind_shown : Str → List Struct → Bool
kind_shown w ss = any (λ (t : Struct). any (λ (f : Field). eqs f.kind w) t.fields) ss

pub all_shown : List Str → List Struct → Bool
all_shown [] ss = true
all_shown (w ∷ ws) ss = kind_shown w ss && all_shown ws ss

pub structs_of : ℕ → List Struct
structs_of seed = (released (plan_of (setting_of seed))).structs

pub kinds-shown : all_shown kind_words (structs_of 322) ≡ true
unfolding all_shown kind_shown any kind_words words eqs bytes structs_of released schema_with structs_with plan_of root whole setting_of Draws.draw Draws.seed_after Draws.next_seed Draws.before_structs Draws.after_structs Draws.front_fields
    Draws.back_fields Draws.root_seed Draws.structs_from Draws.plain_struct Draws.fields_from Draws.field_drawn Draws.field_as Draws.kind_at Draws.target_field Draws.field_name Draws.struct_name
    structs_meant struct_meant fields_meant field_meant text_of W.pool W.struct_names W.field_names W.kind_texts W.word_texts
kinds-shown = refl

-- a stream as one number, beside the oracle's model's ------------------------------------------------------------------------------------------------------------------------

summed : ℕ → Str → ℕ
summed a [] = a
summed a (b ∷ s) = summed ((a * 257 + b + 1) % 1000003) s

sums : ℕ → List ℕ
sums seed =
    summed 0 (stream_of (released_commands (setting_of seed)))
    ∷ summed 0 (stream_of (current_commands (setting_of seed) O.Accepted))
    ∷ summed 0 (stream_of (current_commands (setting_of seed) O.ConstantGone))
    ∷ summed 0 (stream_of (current_commands (setting_of seed) O.FieldGone))
    ∷ summed 0 (stream_of (current_commands (setting_of seed) O.FieldMoved))
    ∷ summed 0 (stream_of (current_commands (setting_of seed) O.FieldResized))
    ∷ summed 0 (stream_of (current_commands (setting_of seed) O.Unraised))
    ∷ []

as-model : ◌≡◌ {A = List (List ℕ)} (sums 0 ∷ sums 1 ∷ sums 2147483647 ∷ [])
    ((99476 ∷ 710523 ∷ 534122 ∷ 751614 ∷ 570137 ∷ 501312 ∷ 551038 ∷ [])
    ∷ (152467 ∷ 857337 ∷ 800159 ∷ 828901 ∷ 46694 ∷ 715373 ∷ 433990 ∷ [])
    ∷ (253196 ∷ 240899 ∷ 792145 ∷ 884115 ∷ 994395 ∷ 40799 ∷ 1367 ∷ [])
    ∷ [])
unfolding sums summed setting_of Draws.draw Draws.seed_after Draws.next_seed Draws.before_structs Draws.after_structs Draws.front_fields Draws.back_fields Draws.root_seed Draws.structs_from Draws.plain_struct Draws.fields_from Draws.field_drawn
    Draws.field_as Draws.kind_at Draws.target_field Draws.retyped_field Draws.inserted_field Draws.added_field Draws.field_name Draws.struct_name Draws.scalar_text Draws.retyped_text Draws.was_text Draws.now_text Draws.slot_text Draws.enum_text Draws.alias_text
    W.struct_text W.field_text stream_of released_commands current_commands record_with all_structs root_struct whole_fields edited_fields spare_now spare_command generation_now head_bytes integer_bytes vendor_bytes version_bytes shared_commands
    field_commands struct_commands field_bytes struct_bytes
as-model = refl
