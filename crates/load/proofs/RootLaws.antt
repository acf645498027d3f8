-- The root's fields and all structures, in the form in which the code puts them. Assumes nothing.
use mathlib.Core.Path.{◌≡◌, refl, sym, ◌∙◌, ap, ap₂}
use mathlib.Core.Logic.{◌⊎◌, inl, inr}
use mathlib.Core.List.{List, [], ◌∷◌, ◌++◌, append_assoc, append-nil}
use Prim.Native.Nat.{ℕ, ◌+◌, ◌-◌, ◌*◌, ◌≤◌, ◌<◌}
use native.Mathlib.Omega.{arith}
use native.Mathlib.Nat.{mul-le-mul}
use Rattle.record.specs.Base.{Str}
use Rattle.record.specs.Write.{Puts}
use Rattle.record.specs.declared.text.Text.{Text}
use Rattle.record.proofs.WriterLaws.{puts_then, puts-as}
use Rattle.load.specs.Pool as W
use Rattle.load.specs.Commands.{field_bytes, struct_bytes}
use Rattle.load.specs.Draws.{seed_after, plain_field, field_name, struct_name, scalar_text, retyped_text, slot_text, fields_from, structs_from, root_seed, front_fields, back_fields, before_structs, after_structs, target_field, retyped_field, inserted_field, added_field}
use Rattle.load.specs.Generator.{whole_fields, edited_fields, root_struct, all_structs}
use Rattle.load.specs.Bytes.{fields_bytes, struct_with_fields, structs_bytes, target_fields, last_fields}
use Rattle.load.specs.Commands.{struct_command}
use Rattle.load.proofs.ByteLaws.{fields-append, structs-append, structs-cons}
use Rattle.load.specs.declared.outcomes.Outcome.{Outcome}
use Rattle.load.specs.declared.outcomes.Outcome.TheVariants as O
use Rattle.load.specs.declared.settings.Setting.{Setting}
use Rattle.load.specs.declared.commands.FieldCommand.{FieldCommand}

module _ (g : Setting) (out : Str) (at : ℕ) where
  pub scalar-put : (j : ℕ) (word name : Text) (row : FieldCommand) (after : Str) (r : ℕ) → name ≡ W.field_text g.lengths j → row ≡ plain_field name W.k·scalar word W.absent
      → Puts out at (field_bytes row) after r → Puts out at (field_bytes (plain_field (field_name g j) W.k·scalar word W.absent)) after r
  unfolding field_bytes field_name
  scalar-put j word name row after r e q w = puts-as w (ap field_bytes (q ∙ ap (λ (t : Text). plain_field t W.k·scalar word W.absent) e))

  module _ (word : Text) (after : Str) (r : ℕ) where
    pub target-put : word ≡ scalar_text g.word → Puts out at (field_bytes (plain_field (field_name g g.target) W.k·scalar word W.absent)) after r → Puts out at (field_bytes (target_field g)) after r
    unfolding target_field
    target-put e w = puts-as w (ap (λ (t : Text). field_bytes (plain_field (field_name g g.target) W.k·scalar t W.absent)) e)

    pub retyped-put : word ≡ retyped_text g.word → Puts out at (field_bytes (plain_field (field_name g g.target) W.k·scalar word W.absent)) after r → Puts out at (field_bytes (retyped_field g)) after r
    unfolding retyped_field
    retyped-put e w = puts-as w (ap (λ (t : Text). field_bytes (plain_field (field_name g g.target) W.k·scalar t W.absent)) e)

    pub inserted-put : word ≡ scalar_text g.fresh → Puts out at (field_bytes (plain_field (field_name g 17) W.k·scalar word W.absent)) after r → Puts out at (field_bytes (inserted_field g)) after r
    unfolding inserted_field
    inserted-put e w = puts-as w (ap (λ (t : Text). field_bytes (plain_field (field_name g 17) W.k·scalar t W.absent)) e)

    pub added-put : word ≡ scalar_text g.fresh → Puts out at (field_bytes (plain_field (field_name g 18) W.k·scalar word W.absent)) after r → Puts out at (field_bytes (added_field g)) after r
    unfolding added_field
    added-put e w = puts-as w (ap (λ (t : Text). field_bytes (plain_field (field_name g 18) W.k·scalar t W.absent)) e)

  -- one field, two, none
  one-put : (f : FieldCommand) (after : Str) (r : ℕ) → Puts out at (field_bytes f) after r → Puts out at (fields_bytes (f ∷ [])) after r
  unfolding fields_bytes
  one-put f after r w = puts-as w (sym (append-nil (field_bytes f)))

  module _ (o : Outcome) (after : Str) (r : ℕ) where
    pub middle-resized : o ≡ O.FieldResized → Puts out at (field_bytes (retyped_field g)) after r → Puts out at (fields_bytes (target_fields g o)) after r
    unfolding target_fields
    middle-resized e w = rw e (one-put (retyped_field g) after r w)

    pub middle-moved : (mid : Str) (q : ℕ) → o ≡ O.FieldMoved → Puts out at (field_bytes (inserted_field g)) mid q → Puts mid q (field_bytes (target_field g)) after r → Puts out at (fields_bytes (target_fields g o)) after r
    unfolding target_fields fields_bytes
    middle-moved mid q e v w = rw e (puts-as (puts_then v w) (ap (λ (x : Str). field_bytes (inserted_field g) ++ x) (sym (append-nil (field_bytes (target_field g))))))

  module _ (o : Outcome) (after : Str) (r : ℕ) where
    pub middle-gone : o ≡ O.FieldGone → Puts out at [] after r → Puts out at (fields_bytes (target_fields g o)) after r
    unfolding target_fields fields_bytes
    middle-gone e w = rw e w

  -- what most outcomes make of the target field and add at the end
  pub middle-same : (o : Outcome) (after : Str) (r : ℕ) → (o ≡ O.FieldGone → ⊥) → (o ≡ O.FieldMoved → ⊥) → (o ≡ O.FieldResized → ⊥)
      → Puts out at (field_bytes (target_field g)) after r → Puts out at (fields_bytes (target_fields g o)) after r
  unfolding target_fields
  middle-same O.Accepted after r a b c w = one-put (target_field g) after r w
  middle-same O.ConstantGone after r a b c w = one-put (target_field g) after r w
  middle-same O.FieldGone after r a b c w = absurd (a refl)
  middle-same O.FieldMoved after r a b c w = absurd (b refl)
  middle-same O.FieldResized after r a b c w = absurd (c refl)
  middle-same O.Unraised after r a b c w = one-put (target_field g) after r w

  pub last-added : (o : Outcome) (after : Str) (r : ℕ) → (o ≡ O.Accepted) ⊎ (o ≡ O.Unraised) → Puts out at (field_bytes (added_field g)) after r → Puts out at (fields_bytes (last_fields g o)) after r
  unfolding last_fields
  last-added o after r (inl e) w = rw e (one-put (added_field g) after r w)
  last-added o after r (inr e) w = rw e (one-put (added_field g) after r w)

  pub last-none : (o : Outcome) (after : Str) (r : ℕ) → (o ≡ O.Accepted → ⊥) → (o ≡ O.Unraised → ⊥) → Puts out at [] after r → Puts out at (fields_bytes (last_fields g o)) after r
  unfolding last_fields fields_bytes
  last-none O.Accepted after r a b w = absurd (a refl)
  last-none O.ConstantGone after r a b w = w
  last-none O.FieldGone after r a b w = w
  last-none O.FieldMoved after r a b w = w
  last-none O.FieldResized after r a b w = w
  last-none O.Unraised after r a b w = absurd (b refl)

-- the root's fields as four stretches
edited-four : (g : Setting) (o : Outcome) → front_fields g ++ (target_fields g o ++ (back_fields g ++ last_fields g o)) ≡ edited_fields g o
unfolding edited_fields whole_fields target_fields last_fields
edited-four g O.Accepted = sym (append_assoc (front_fields g) (target_field g ∷ back_fields g) (added_field g ∷ []))
edited-four g O.ConstantGone = ap (λ (x : List FieldCommand). front_fields g ++ (target_field g ∷ x)) (append-nil (back_fields g))
edited-four g O.FieldGone = ap (λ (x : List FieldCommand). front_fields g ++ x) (append-nil (back_fields g))
edited-four g O.FieldMoved = ap (λ (x : List FieldCommand). front_fields g ++ (inserted_field g ∷ target_field g ∷ x)) (append-nil (back_fields g))
edited-four g O.FieldResized = ap (λ (x : List FieldCommand). front_fields g ++ (retyped_field g ∷ x)) (append-nil (back_fields g))
edited-four g O.Unraised = sym (append_assoc (front_fields g) (target_field g ∷ back_fields g) (added_field g ∷ []))

fields-four : (a b c d : List FieldCommand) → fields_bytes a ++ (fields_bytes b ++ (fields_bytes c ++ fields_bytes d)) ≡ fields_bytes (a ++ (b ++ (c ++ d)))
fields-four a b c d =
    ap (λ (x : Str). fields_bytes a ++ (fields_bytes b ++ x)) (sym (fields-append c d))
    ∙ ap (λ (x : Str). fields_bytes a ++ x) (sym (fields-append b (c ++ d)))
    ∙ sym (fields-append a (b ++ (c ++ d)))

module _ (g : Setting) (out : Str) (at : ℕ) where
  pub front-put : (seed : ℕ) (after : Str) (r : ℕ) → seed ≡ root_seed g → Puts out at (fields_bytes (fields_from g seed 0 g.target)) after r → Puts out at (fields_bytes (front_fields g)) after r
  unfolding front_fields
  front-put seed after r e p = puts-as p (ap (λ (k : ℕ). fields_bytes (fields_from g k 0 g.target)) e)

  pub back-put : (seed then : ℕ) (after : Str) (r : ℕ) → seed ≡ root_seed g → then ≡ seed_after (3 * g.target) seed
      → Puts out at (fields_bytes (fields_from g then (g.target + 1) (g.fields - (g.target + 1)))) after r → Puts out at (fields_bytes (back_fields g)) after r
  unfolding back_fields
  back-put seed then after r e t p = puts-as p (ap (λ (k : ℕ). fields_bytes (fields_from g k (g.target + 1) (g.fields - (g.target + 1)))) (t ∙ ap (seed_after (3 * g.target)) e))

  pub before-put : (after : Str) (r : ℕ) → Puts out at (structs_bytes (structs_from g g.seed 0 g.root)) after r → Puts out at (structs_bytes (before_structs g)) after r
  unfolding before_structs
  before-put after r p = p

  pub after-put : (seed then : ℕ) (after : Str) (r : ℕ) → seed ≡ root_seed g → then ≡ seed_after (3 * (g.fields - 1)) seed
      → Puts out at (structs_bytes (structs_from g then (g.root + 1) (g.structs - (g.root + 1)))) after r → Puts out at (structs_bytes (after_structs g)) after r
  unfolding after_structs
  after-put seed then after r e t p = puts-as p (ap (λ (k : ℕ). structs_bytes (structs_from g k (g.root + 1) (g.structs - (g.root + 1)))) (t ∙ ap (seed_after (3 * (g.fields - 1))) e))

  pub seed-is : (r : ℕ) → r ≡ seed_after (3 * g.fields * g.root) g.seed → r ≡ root_seed g
  unfolding root_seed
  seed-is r e = e

module _ (g : Setting) (out : Str) (at : ℕ) (o : Outcome) where
  pub edited-put : (x y z after : Str) (a b c r : ℕ) → Puts out at (fields_bytes (front_fields g)) x a → Puts x a (fields_bytes (target_fields g o)) y b
      → Puts y b (fields_bytes (back_fields g)) z c → Puts z c (fields_bytes (last_fields g o)) after r → Puts out at (fields_bytes (edited_fields g o)) after r
  edited-put x y z after a b c r p q s w =
      puts-as (puts_then p (puts_then q (puts_then s w)))
      (fields-four (front_fields g) (target_fields g o) (back_fields g) (last_fields g o) ∙ ap fields_bytes (edited-four g o))

  pub root-put : (name slot : Text) (mid after : Str) (q r : ℕ) → name ≡ W.struct_text g.lengths g.root → slot ≡ slot_text g.slot → Puts out at (struct_bytes (struct_command name slot W.t·GENERATION)) mid q
      → Puts mid q (fields_bytes (edited_fields g o)) after r → Puts out at (struct_with_fields (root_struct g (edited_fields g o))) after r
  unfolding struct_with_fields root_struct struct_name struct_bytes
  root-put name slot mid after q r e s a b = puts_then (puts-as a (ap₂ (λ (t k : Text). struct_bytes (struct_command t k W.t·GENERATION)) e s)) b

  pub all-put : (x y after : Str) (a b r : ℕ) → Puts out at (structs_bytes (before_structs g)) x a → Puts x a (struct_with_fields (root_struct g (edited_fields g o))) y b
      → Puts y b (structs_bytes (after_structs g)) after r → Puts out at (structs_bytes (all_structs g (edited_fields g o))) after r
  unfolding all_structs
  all-put x y after a b r p q s =
      puts-as (puts_then p (puts_then q s))
      (ap (λ (z : Str). structs_bytes (before_structs g) ++ z) (structs-cons (root_struct g (edited_fields g o)) (after_structs g)) ∙ sym (structs-append (before_structs g) (root_struct g (edited_fields g o) ∷ after_structs g)))

-- so many draws are a number of the machine
pub few-draws : (a b : ℕ) → a ≤ 51 → b ≤ 8 → a * b < 4294967296
few-draws a b h k = let m : a * b ≤ 51 * 8 = mul-le-mul h k in omega arith
