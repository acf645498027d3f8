-- A record's commands, in the form in which the code puts them. Assumes nothing.
use mathlib.Core.Path.{◌≡◌, refl, sym, ◌∙◌, ap, ap₂}
use mathlib.Core.List.{List, [], ◌∷◌, ◌++◌, append_assoc, append-nil}
use Prim.Native.Nat.{ℕ, ◌+◌, ◌/◌, ◌%◌}
use Rattle.record.specs.Base.{Str}
use Rattle.record.specs.Write.{Puts}
use Rattle.record.specs.declared.text.Text.{Text}
use Rattle.record.proofs.WriterLaws.{puts_then, puts-as}
use Rattle.load.specs.Plan.{generation_now}
use Rattle.load.specs.Pool as W
use Rattle.load.specs.Draws.{struct_name, now_text, was_text}
use Rattle.load.specs.Generator.{head_bytes, integer_bytes, vendor_bytes, version_bytes, shared_commands, whole_fields, edited_fields, all_structs, spare_command, spare_now, record_with, released_commands, current_commands, stream_of}
use Rattle.load.specs.Bytes.{structs_bytes, commands_bytes, shared_bytes, rest_bytes}
use Rattle.load.proofs.ByteLaws.{record-bytes}
use Rattle.load.specs.declared.outcomes.Outcome.{Outcome}
use Rattle.load.specs.declared.outcomes.Outcome.TheVariants as O
use Rattle.load.specs.declared.settings.Setting.{Setting}
use Rattle.load.specs.declared.commands.FieldCommand.{FieldCommand}

module _ (t : Text) (a b : ℕ) (p : a ≡ t.start % 256) (q : b ≡ t.start / 256) where
  pub head-put : (1 ∷ a ∷ b ∷ t.len ∷ 0 ∷ []) ≡ head_bytes t
  unfolding head_bytes
  head-put = λ i. 1 ∷ p i ∷ q i ∷ t.len ∷ 0 ∷ []

  module _ (n c d e f : ℕ) (r : c ≡ n % 256) (s : d ≡ n / 256 % 256) (u : e ≡ n / 65536 % 256) (v : f ≡ n / 16777216) where
    pub version-put : (14 ∷ a ∷ b ∷ t.len ∷ c ∷ d ∷ e ∷ f ∷ []) ≡ version_bytes t n
    unfolding version_bytes
    version-put = λ i. 14 ∷ p i ∷ q i ∷ t.len ∷ r i ∷ s i ∷ u i ∷ v i ∷ []

    pub integer-put : (w : Text) (api g h : ℕ) → g ≡ w.start % 256 → h ≡ w.start / 256
        → (2 ∷ a ∷ b ∷ t.len ∷ 0 ∷ c ∷ d ∷ e ∷ f ∷ 0 ∷ 0 ∷ 0 ∷ 0 ∷ 255 ∷ 255 ∷ 0 ∷ api ∷ g ∷ h ∷ w.len ∷ []) ≡ integer_bytes t n api w
    unfolding integer_bytes
    integer-put w api g h x y = λ i. 2 ∷ p i ∷ q i ∷ t.len ∷ 0 ∷ r i ∷ s i ∷ u i ∷ v i ∷ 0 ∷ 0 ∷ 0 ∷ 0 ∷ 255 ∷ 255 ∷ 0 ∷ api ∷ x i ∷ y i ∷ w.len ∷ []

pub stop-put : 15 ∷ [] ≡ stream_of []
unfolding stream_of
stop-put = refl

module _ (g : Setting) (out : Str) (at : ℕ) (o : Outcome) (after : Str) (r : ℕ) where
  spare-put : Puts out at (integer_bytes W.t·TILE-LIMIT g.spare 1 W.t·0·8·0) after r → Puts out at (commands_bytes (spare_command g)) after r
  unfolding commands_bytes spare_command
  spare-put w = puts-as w (sym (append-nil (integer_bytes W.t·TILE-LIMIT g.spare 1 W.t·0·8·0)))

  pub spare-constant : o ≡ O.ConstantGone → Puts out at [] after r → Puts out at (commands_bytes (spare_now g o)) after r
  unfolding spare_now commands_bytes
  spare-constant e w = rw e w

module _ (g : Setting) (out : Str) (at : ℕ) where
  pub spare-kept : (o : Outcome) (after : Str) (r : ℕ) → (o ≡ O.ConstantGone → ⊥) → Puts out at (integer_bytes W.t·TILE-LIMIT g.spare 1 W.t·0·8·0) after r → Puts out at (commands_bytes (spare_now g o)) after r
  unfolding spare_now
  spare-kept O.Accepted after r n w = spare-put g out at O.Accepted after r w
  spare-kept O.ConstantGone after r n w = absurd (n refl)
  spare-kept O.FieldGone after r n w = spare-put g out at O.FieldGone after r w
  spare-kept O.FieldMoved after r n w = spare-put g out at O.FieldMoved after r w
  spare-kept O.FieldResized after r n w = spare-put g out at O.FieldResized after r w
  spare-kept O.Unraised after r n w = spare-put g out at O.Unraised after r w

pub not-raised : (o : Outcome) (n : ℕ) → (o ≡ O.Accepted → ⊥) → n ≡ generation_now o n
unfolding generation_now
not-raised O.Accepted n h = absurd (h refl)
not-raised O.ConstantGone n h = refl
not-raised O.FieldGone n h = refl
not-raised O.FieldMoved n h = refl
not-raised O.FieldResized n h = refl
not-raised O.Unraised n h = refl

pub raised : (g : Setting) (o : Outcome) (r : ℕ) → o ≡ O.Accepted → r ≡ g.generation + 1 → r ≡ generation_now o g.generation
unfolding generation_now
raised g o r e q = rw e q

-- a record in three stretches
record-three : (g : Setting) (release : Text) (spare : List Str) (n : ℕ) (fs : List FieldCommand)
    → (head_bytes release ++ integer_bytes W.t·GENERATION n 0 W.absent) ++ (commands_bytes spare ++ rest_bytes g n fs) ≡ stream_of (record_with g release spare n fs)
unfolding rest_bytes shared_bytes
record-three g release spare n fs =
    let end = version_bytes (struct_name g g.root) n ++ (structs_bytes (all_structs g fs) ++ (15 ∷ [])) in
    append_assoc (head_bytes release) (integer_bytes W.t·GENERATION n 0 W.absent) (commands_bytes spare ++ rest_bytes g n fs)
    ∙ ap (λ (x : Str). head_bytes release ++ (integer_bytes W.t·GENERATION n 0 W.absent ++ (commands_bytes spare ++ x)))
    (append_assoc (integer_bytes W.t·PLUGIN-API 4 1 W.absent) (vendor_bytes ++ commands_bytes shared_commands) end
    ∙ ap (λ (x : Str). integer_bytes W.t·PLUGIN-API 4 1 W.absent ++ x) (append_assoc vendor_bytes (commands_bytes shared_commands) end))
    ∙ sym (record-bytes g release spare n fs)

module _ (g : Setting) (out : Str) (at : ℕ) where
  pub rest_put : (n : ℕ) (fs : List FieldCommand) (name : Text) (x y z after : Str) (a b c r : ℕ) → Puts out at shared_bytes x a → name ≡ W.struct_text g.lengths g.root
      → Puts x a (version_bytes name n) y b → Puts y b (structs_bytes (all_structs g fs)) z c → Puts z c (stream_of []) after r → Puts out at (rest_bytes g n fs) after r
  unfolding rest_bytes struct_name stream_of
  rest_put n fs name x y z after a b c r p e q s w = puts_then p (puts_then (puts-as q (ap (λ (t : Text). version_bytes t n) e)) (puts_then s w))

  pub released-put : (release : Text) (x y after : Str) (a b r : ℕ) → release ≡ was_text g.releases → Puts out at (head_bytes release ++ integer_bytes W.t·GENERATION g.generation 0 W.absent) x a
      → Puts x a (integer_bytes W.t·TILE-LIMIT g.spare 1 W.t·0·8·0) y b → Puts y b (rest_bytes g g.generation (edited_fields g O.ConstantGone)) after r
      → Puts out at (stream_of (released_commands g)) after r
  unfolding released_commands edited_fields
  released-put release x y after a b r e p q s =
      puts-as
      (puts_then
      (puts-as p (ap (λ (t : Text). head_bytes t ++ integer_bytes W.t·GENERATION g.generation 0 W.absent) e))
      (puts_then (spare-put g x a O.ConstantGone y b q) s))
      (record-three g (was_text g.releases) (spare_command g) g.generation (whole_fields g))

  pub current-put : (o : Outcome) (release : Text) (n : ℕ) (x y after : Str) (a b r : ℕ) → release ≡ now_text g.releases → n ≡ generation_now o g.generation
      → Puts out at (head_bytes release ++ integer_bytes W.t·GENERATION n 0 W.absent) x a
      → Puts x a (commands_bytes (spare_now g o)) y b → Puts y b (rest_bytes g n (edited_fields g o)) after r → Puts out at (stream_of (current_commands g o)) after r
  unfolding current_commands
  current-put o release n x y after a b r e k p q s =
      puts-as
      (puts_then
      (puts-as p (ap₂ (λ (t : Text) (m : ℕ). head_bytes t ++ integer_bytes W.t·GENERATION m 0 W.absent) e k))
      (puts_then q (puts-as s (ap (λ (m : ℕ). rest_bytes g m (edited_fields g o)) k))))
      (record-three g (now_text g.releases) (spare_now g o) (generation_now o g.generation) (edited_fields g o))
