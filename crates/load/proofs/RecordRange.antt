-- The fields and structures of a pair's records: all fit, all are small, and there are few. Assumes nothing.
use mathlib.Core.Path.{◌≡◌, refl, sym, ap, subst}
use mathlib.Core.List.Memᴰ
use mathlib.Core.List.{List, [], ◌∷◌, ◌++◌, Memᴰ}
use mathlib.Core.Bool.{true}
use mathlib.Core.Logic.{◌⊎◌, inl, inr}
use Prim.Native.Nat.{ℕ, zero, suc, ◌+◌, ◌-◌, ◌*◌, ◌/◌, ◌<◌, ◌≤◌}
use native.Mathlib.Omega.{arith}
use native.Mathlib.Nat.{mod-lt}
use lib.Dec.{leb, lit<, lit≤}
use lib.ListN.{length, length-append}
use borrow.Author.Tests.{leb-true}
use Rattle.record.specs.Base.{bytes, eqs, find, or_else}
use Rattle.record.specs.Stretch.{text_of}
use Rattle.record.specs.Operands.{opt_text}
use Rattle.record.specs.Scalars.{built_in, scalar_in, prim_size}
use Rattle.record.specs.Shapes.{shape_size}
use Rattle.record.specs.declared.text.Text.{Text}
use Rattle.load.specs.Plan.{released}
use Rattle.load.specs.Pool as W
use Rattle.load.specs.Commands.{StructCommand, meant_text, field_meant}
use Rattle.load.specs.Draws
use Rattle.load.specs.Range.{InRange}
use Rattle.load.specs.Generator.{plan_of, root_struct, all_structs, whole_fields, edited_fields}
use Rattle.load.proofs.Shared.{four}
use Rattle.load.proofs.Generated.{scalar_size-drawn}
use Rattle.load.proofs.CommandLaws.{InPool, FieldFits, StructFits}
use Rattle.load.proofs.CommandRange.{scalar-in, retyped-in, slot-in, struct-in, field_in, plain_fits, command-fits, command-small}
use Rattle.load.specs.declared.outcomes.Outcome.{Outcome}
use Rattle.load.specs.declared.outcomes.Outcome.TheVariants as O
use Rattle.load.specs.declared.settings.Setting.{Setting}
use Rattle.load.specs.declared.commands.FieldCommand.{FieldCommand}

pub record FieldGood (g : Setting) (f : FieldCommand) : Type 0 where
  pub fits : FieldFits f
  pub small : shape_size (released (plan_of g)) (field_meant f) ≤ 256

abbrev pub AllGood : Setting → List FieldCommand → Type 0
AllGood g fs = (f : FieldCommand) → Memᴰ f fs → FieldGood g f

pub record StructGood (g : Setting) (s : StructCommand) : Type 0 where
  pub fits : StructFits s
  pub good : AllGood g s.fields
  pub few : length s.fields ≤ 18

word_sized : Text → ℕ
word_sized t = prim_size built_in (or_else (meant_text t) (bytes "u8"))

word_small : (n : ℕ) → n < 4 → leb (word_sized (Draws.scalar_text n)) 256 ≡ true
unfolding word_sized Draws.scalar_text prim_size scalar_in find built_in or_else meant_text opt_text text_of W.pool W.struct_names W.field_names W.kind_texts W.word_texts bytes eqs
word_small = four (λ (n : ℕ). leb (word_sized (Draws.scalar_text n)) 256 ≡ true) refl refl refl refl

retyped-small : (n : ℕ) → n < 4 → leb (word_sized (Draws.retyped_text n)) 256 ≡ true
unfolding word_sized Draws.retyped_text prim_size scalar_in find built_in or_else meant_text opt_text text_of W.pool W.struct_names W.field_names W.kind_texts W.word_texts bytes eqs
retyped-small = four (λ (n : ℕ). leb (word_sized (Draws.retyped_text n)) 256 ≡ true) refl refl refl refl

module _ (g : Setting) (r : InRange g) where
  some-structs : 0 < g.structs
  some-structs = let a = r.root in omega arith

  -- drawn fields
  drawn-good : (s j : ℕ) → j < 19 → FieldGood g (Draws.field_drawn g s j)
  unfolding Draws.field_drawn Draws.field_name Draws.draw
  drawn-good s j h = record {
    fits = command-fits g.lengths g.structs some-structs r.structs (W.field_text g.lengths j) (field_in g.lengths j h) (Draws.draw s 2 8) (Draws.draw s 3 8) (Draws.kind_at (Draws.draw s 1 16));
    small = command-small g (Draws.kind_at (Draws.draw s 1 16)) g.lengths g.structs (W.field_text g.lengths j) (Draws.draw s 2 8) (Draws.draw s 3 8) (mod-lt (Draws.seed_after 2 s / 65536) (lit< tt)) (mod-lt (Draws.seed_after 3 s / 65536) (lit< tt));
  }

  fields-good : (s j n : ℕ) → j + n ≤ 19 → AllGood g (Draws.fields_from g s j n)
  unfolding Draws.fields_from
  fields-good s j zero h f m = absurd (Memᴰ.not-nil m)
  fields-good s j (suc n) h f (Memᴰ.head e) = subst (FieldGood g) (sym e) (drawn-good s j (omega arith))
  fields-good s j (suc n) h f (Memᴰ.tail m) = fields-good (Draws.seed_after 3 s) (j + 1) n (omega arith) f m

  pub fields-count : (s j n : ℕ) → length (Draws.fields_from g s j n) ≡ n
  unfolding Draws.fields_from
  fields-count s j zero = refl
  fields-count s j (suc n) = ap suc (fields-count (Draws.seed_after 3 s) (j + 1) n)

  -- the root's
  scalar-good : (j : ℕ) (t : Text) → j < 19 → InPool t → leb (word_sized t) 256 ≡ true → FieldGood g (Draws.plain_field (Draws.field_name g j) W.k·scalar t W.absent)
  unfolding Draws.field_name word_sized
  scalar-good j t h p z = record {
    fits = plain_fits (W.field_text g.lengths j) W.k·scalar t (field_in g.lengths j h) (lit≤ tt) (inl p);
    small = subst (λ (n : ℕ). n ≤ 256) (sym (scalar_size-drawn g (W.field_text g.lengths j) t)) (leb-true (word_sized t) 256 z);
  }

  target-low : g.target < 19
  target-low = let a = r.target in let b = r.fields in omega arith

  front-good : AllGood g (Draws.front_fields g)
  unfolding Draws.front_fields
  front-good = fields-good (Draws.root_seed g) 0 g.target (let a = target-low in omega arith)

  back-good : AllGood g (Draws.back_fields g)
  unfolding Draws.back_fields
  back-good = fields-good (Draws.seed_after (3 * g.target) (Draws.root_seed g)) (g.target + 1) (g.fields - (g.target + 1)) (let a = r.target in let b = r.fields in omega arith)

  target-good : FieldGood g (Draws.target_field g)
  unfolding Draws.target_field
  target-good = scalar-good g.target (Draws.scalar_text g.word) target-low (scalar-in g.word) (word_small g.word r.word)

  retyped-good : FieldGood g (Draws.retyped_field g)
  unfolding Draws.retyped_field
  retyped-good = scalar-good g.target (Draws.retyped_text g.word) target-low (retyped-in g.word) (retyped-small g.word r.word)

  inserted-good : FieldGood g (Draws.inserted_field g)
  unfolding Draws.inserted_field
  inserted-good = scalar-good 17 (Draws.scalar_text g.fresh) (lit< tt) (scalar-in g.fresh) (word_small g.fresh r.fresh)

  added-good : FieldGood g (Draws.added_field g)
  unfolding Draws.added_field
  added-good = scalar-good 18 (Draws.scalar_text g.fresh) (lit< tt) (scalar-in g.fresh) (word_small g.fresh r.fresh)

  both-good : (l k : List FieldCommand) → AllGood g l → AllGood g k → AllGood g (l ++ k)
  both-good l k a b f m = go (Memᴰ.append_cases l m)
    where
      go : Memᴰ f l ⊎ Memᴰ f k → FieldGood g f
      go (inl i) = a f i
      go (inr i) = b f i

  one-good : (x : FieldCommand) (k : List FieldCommand) → FieldGood g x → AllGood g k → AllGood g (x ∷ k)
  one-good x k a b f (Memᴰ.head e) = subst (FieldGood g) (sym e) a
  one-good x k a b f (Memᴰ.tail m) = b f m

  none-good : AllGood g []
  none-good f m = absurd (Memᴰ.not-nil m)

  pub whole-good : AllGood g (whole_fields g)
  unfolding whole_fields
  whole-good = both-good (Draws.front_fields g) (Draws.target_field g ∷ Draws.back_fields g) front-good (one-good (Draws.target_field g) (Draws.back_fields g) target-good back-good)

  pub edited-good : (o : Outcome) → AllGood g (edited_fields g o)
  unfolding edited_fields
  edited-good O.Accepted = both-good (whole_fields g) (Draws.added_field g ∷ []) whole-good (one-good (Draws.added_field g) [] added-good none-good)
  edited-good O.ConstantGone = whole-good
  edited-good O.FieldGone = both-good (Draws.front_fields g) (Draws.back_fields g) front-good back-good
  edited-good O.FieldMoved = both-good (Draws.front_fields g) (Draws.inserted_field g ∷ Draws.target_field g ∷ Draws.back_fields g) front-good (one-good (Draws.inserted_field g) (Draws.target_field g ∷ Draws.back_fields g) inserted-good (one-good (Draws.target_field g) (Draws.back_fields g) target-good back-good))
  edited-good O.FieldResized = both-good (Draws.front_fields g) (Draws.retyped_field g ∷ Draws.back_fields g) front-good (one-good (Draws.retyped_field g) (Draws.back_fields g) retyped-good back-good)
  edited-good O.Unraised = both-good (whole_fields g) (Draws.added_field g ∷ []) whole-good (one-good (Draws.added_field g) [] added-good none-good)

  -- how many
  front-count : length (Draws.front_fields g) ≡ g.target
  unfolding Draws.front_fields
  front-count = fields-count (Draws.root_seed g) 0 g.target

  back_count : length (Draws.back_fields g) ≡ g.fields - (g.target + 1)
  unfolding Draws.back_fields
  back_count = fields-count (Draws.seed_after (3 * g.target) (Draws.root_seed g)) (g.target + 1) (g.fields - (g.target + 1))

  pub whole-count : length (whole_fields g) ≡ g.fields
  unfolding whole_fields
  whole-count =
      let a = front-count in
      let b = back_count in
      let c = length-append (Draws.front_fields g) (Draws.target_field g ∷ Draws.back_fields g) in
      let d = r.target in
      omega arith

  pub edited-few : (o : Outcome) → length (edited_fields g o) ≤ 18
  unfolding edited_fields
  edited-few O.Accepted = let a = whole-count in let c = length-append (whole_fields g) (Draws.added_field g ∷ []) in let d = r.fields in omega arith
  edited-few O.ConstantGone = let a = whole-count in let d = r.fields in omega arith
  edited-few O.FieldGone = let a = front-count in let b = back_count in let c = length-append (Draws.front_fields g) (Draws.back_fields g) in let d = r.fields in let e = r.target in omega arith
  edited-few O.FieldMoved = let a = front-count in let b = back_count in let c = length-append (Draws.front_fields g) (Draws.inserted_field g ∷ Draws.target_field g ∷ Draws.back_fields g) in let d = r.fields in let e = r.target in omega arith
  edited-few O.FieldResized = let a = front-count in let b = back_count in let c = length-append (Draws.front_fields g) (Draws.retyped_field g ∷ Draws.back_fields g) in let d = r.fields in let e = r.target in omega arith
  edited-few O.Unraised = let a = whole-count in let c = length-append (whole_fields g) (Draws.added_field g ∷ []) in let d = r.fields in omega arith

  -- structures
  plain-good : (s i : ℕ) → i < 8 → StructGood g (Draws.plain_struct g s i)
  unfolding Draws.plain_struct Draws.struct_name
  plain-good s i h = record {
    fits = record { name = struct-in g.lengths i h; slot = inr refl; version = inr refl; fields = λ f m. (fields-good s 0 g.fields (let a = r.fields in omega arith) f m).fits };
    good = fields-good s 0 g.fields (let a = r.fields in omega arith);
    few = (let a = fields-count s 0 g.fields in let b = r.fields in omega arith);
  }

  structs-good : (s i n : ℕ) → i + n ≤ 8 → (t : StructCommand) → Memᴰ t (Draws.structs_from g s i n) → StructGood g t
  unfolding Draws.structs_from
  structs-good s i zero h t m = absurd (Memᴰ.not-nil m)
  structs-good s i (suc n) h t (Memᴰ.head e) = subst (StructGood g) (sym e) (plain-good s i (omega arith))
  structs-good s i (suc n) h t (Memᴰ.tail m) = structs-good (Draws.seed_after (3 * g.fields) s) (i + 1) n (omega arith) t m

  structs-count : (s i n : ℕ) → length (Draws.structs_from g s i n) ≡ n
  unfolding Draws.structs_from
  structs-count s i zero = refl
  structs-count s i (suc n) = ap suc (structs-count (Draws.seed_after (3 * g.fields) s) (i + 1) n)

  module _ (fs : List FieldCommand) (k : AllGood g fs) (few : length fs ≤ 18) where
    root-good : StructGood g (root_struct g fs)
    unfolding root_struct Draws.struct_name
    root-good = record {
      fits = record { name = struct-in g.lengths g.root (let a = r.root in let b = r.structs in omega arith); slot = inl (slot-in g.slot); version = inl (lit≤ tt); fields = λ f m. (k f m).fits };
      good = k;
      few = few;
    }

    pub all-good : (t : StructCommand) → Memᴰ t (all_structs g fs) → StructGood g t
    unfolding all_structs Draws.before_structs Draws.after_structs
    all-good t m = go (Memᴰ.append_cases (Draws.structs_from g g.seed 0 g.root) m)
      where
        go : Memᴰ t (Draws.structs_from g g.seed 0 g.root) ⊎ Memᴰ t (root_struct g fs ∷ Draws.after_structs g) → StructGood g t
        go (inl i) = structs-good g.seed 0 g.root (let a = r.root in let b = r.structs in omega arith) t i
        go (inr (Memᴰ.head e)) = subst (StructGood g) (sym e) root-good
        go (inr (Memᴰ.tail i)) = structs-good (Draws.seed_after (3 * (g.fields - 1)) (Draws.root_seed g)) (g.root + 1) (g.structs - (g.root + 1)) (let a = r.root in let b = r.structs in omega arith) t i

    pub all-count : length (all_structs g fs) ≡ g.structs
    unfolding all_structs Draws.before_structs Draws.after_structs
    all-count =
        let a = structs-count g.seed 0 g.root in
        let b = structs-count (Draws.seed_after (3 * (g.fields - 1)) (Draws.root_seed g)) (g.root + 1) (g.structs - (g.root + 1)) in
        let c = length-append (Draws.before_structs g) (root_struct g fs ∷ Draws.after_structs g) in
        let d = r.root in
        omega arith
