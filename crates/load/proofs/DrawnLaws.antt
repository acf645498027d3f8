-- Texts by a small number and fields by their kind, as the code's branches have them. Assumes nothing.
use mathlib.Core.Path.{◌≡◌, ◌∙◌, ap}
use mathlib.Core.Bool.{cond}
use Prim.Native.Nat.{ℕ, ◌+◌, ◌%◌, ◌≤◌, ◌<◌}
use native.Mathlib.Omega.{arith}
use native.Mathlib.Nat.{mod-lt}
use mathlib.Core.List.{[], ◌∷◌}
use lib.ListN.{get_or-eq_default}
use Rattle.record.specs.declared.kind.Kind.TheVariants as K
use lib.Dec.{eqb}
use borrow.Author.Tests.{ne_eqb}
use Rattle.record.specs.declared.text.Text.{Text}
use Rattle.load.specs.Pool as W
use Rattle.load.specs.Pool.{struct_text}
use Rattle.load.specs.Draws.{scalar_text, enum_text, alias_text, kind_at, plain_field, array_field, grid_field, padding_field, field_as}
use Rattle.load.specs.declared.commands.FieldCommand.{FieldCommand}

-- what the rest of a chain gives where a number is not the one tested for
pub skipped : (n k : ℕ) (a b x : Text) → (n ≡ k → ⊥) → x ≡ b → x ≡ cond (eqb n k) a b
skipped n k a b x h q = rw (ne_eqb n k h) q

pub mod_below : (t a : ℕ) → 0 < a → a ≤ 8 → t % a < 8
mod_below t a h j = let q : t % a < a = mod-lt t h in omega arith

beyond : (k : ℕ) → 15 ≤ k → kind_at k ≡ K.Text
unfolding kind_at
beyond k h =
    get_or-eq_default (K.Scalar ∷ K.Enum ∷ K.TypeAlias ∷ K.Bitfield ∷ K.InlineArray ∷ K.InlineArray2d ∷ K.CstrPtr ∷ K.StructPtr ∷ K.StructArrayPtr ∷ K.StructPtrArrayPtr
    ∷ K.TaggedFamPtr ∷ K.SimpleFamPtr ∷ K.OpaquePtr ∷ K.FnPtr ∷ K.Padding ∷ []) K.Text h

past : (k i : ℕ) → i ≤ k → (k ≡ i → ⊥) → i + 1 ≤ k
past k i a b = omega arith

lowest : (k : ℕ) → 0 ≤ k
lowest k = omega arith

none_of : (k : ℕ) → (k ≡ 0 → ⊥) → (k ≡ 1 → ⊥) → (k ≡ 2 → ⊥) → (k ≡ 3 → ⊥) → (k ≡ 4 → ⊥) → (k ≡ 5 → ⊥) → (k ≡ 6 → ⊥) → (k ≡ 7 → ⊥) → (k ≡ 8 → ⊥) → (k ≡ 9 → ⊥) → (k ≡ 10 → ⊥) → (k ≡ 11 → ⊥) → (k ≡ 12 → ⊥) → (k ≡ 13 → ⊥) → (k ≡ 14 → ⊥) → 15 ≤ k
none_of k h0 h1 h2 h3 h4 h5 h6 h7 h8 h9 h10 h11 h12 h13 h14 = past k 14 (past k 13 (past k 12 (past k 11 (past k 10 (past k 9 (past k 8 (past k 7 (past k 6 (past k 5 (past k 4 (past k 3 (past k 2 (past k 1 (past k 0 (lowest k) h0) h1) h2) h3) h4) h5) h6) h7) h8) h9) h10) h11) h12) h13) h14

module _ (l a : ℕ) (nm : Text) (k n t : ℕ) (r : FieldCommand) where
  pub arm-0 : k ≡ 0 → (x : Text) → x ≡ scalar_text (t % 4) → r ≡ plain_field nm W.k·scalar x W.absent → r ≡ field_as (kind_at k) l a nm n t
  unfolding kind_at field_as
  arm-0 e x y q = rw e (q ∙ ap (λ (x : Text). plain_field nm W.k·scalar x W.absent) y)

  pub arm-1 : k ≡ 1 → (x : Text) → x ≡ enum_text (t % 2) → r ≡ plain_field nm W.k·enum x W.absent → r ≡ field_as (kind_at k) l a nm n t
  unfolding kind_at field_as
  arm-1 e x y q = rw e (q ∙ ap (λ (x : Text). plain_field nm W.k·enum x W.absent) y)

  pub arm-2 : k ≡ 2 → (x : Text) → x ≡ alias_text (t % 2) → r ≡ plain_field nm W.k·type-alias x W.absent → r ≡ field_as (kind_at k) l a nm n t
  unfolding kind_at field_as
  arm-2 e x y q = rw e (q ∙ ap (λ (x : Text). plain_field nm W.k·type-alias x W.absent) y)

  pub arm-3 : k ≡ 3 → r ≡ plain_field nm W.k·bitfield W.t·flags W.absent → r ≡ field_as (kind_at k) l a nm n t
  unfolding kind_at field_as
  arm-3 e q = rw e (q)

  pub arm-4 : k ≡ 4 → (x : Text) → x ≡ scalar_text (t % 4) → r ≡ array_field nm W.k·inline-array x (n + 1) → r ≡ field_as (kind_at k) l a nm n t
  unfolding kind_at field_as
  arm-4 e x y q = rw e (q ∙ ap (λ (x : Text). array_field nm W.k·inline-array x (n + 1)) y)

  pub arm-5 : k ≡ 5 → (x : Text) → x ≡ scalar_text (t % 4) → r ≡ grid_field nm W.k·inline-array2d x (n + 1) (t + 1) → r ≡ field_as (kind_at k) l a nm n t
  unfolding kind_at field_as
  arm-5 e x y q = rw e (q ∙ ap (λ (x : Text). grid_field nm W.k·inline-array2d x (n + 1) (t + 1)) y)

  pub arm-6 : k ≡ 6 → r ≡ plain_field nm W.k·cstr-ptr W.absent W.absent → r ≡ field_as (kind_at k) l a nm n t
  unfolding kind_at field_as
  arm-6 e q = rw e (q)

  pub arm-7 : k ≡ 7 → (x : Text) → x ≡ struct_text l (t % a) → r ≡ plain_field nm W.k·struct-ptr x W.absent → r ≡ field_as (kind_at k) l a nm n t
  unfolding kind_at field_as
  arm-7 e x y q = rw e (q ∙ ap (λ (x : Text). plain_field nm W.k·struct-ptr x W.absent) y)

  pub arm-8 : k ≡ 8 → (x : Text) → x ≡ struct_text l (t % a) → r ≡ plain_field nm W.k·struct-array-ptr W.absent x → r ≡ field_as (kind_at k) l a nm n t
  unfolding kind_at field_as
  arm-8 e x y q = rw e (q ∙ ap (λ (x : Text). plain_field nm W.k·struct-array-ptr W.absent x) y)

  pub arm-9 : k ≡ 9 → (x : Text) → x ≡ struct_text l (t % a) → r ≡ plain_field nm W.k·struct-ptr-array-ptr W.absent x → r ≡ field_as (kind_at k) l a nm n t
  unfolding kind_at field_as
  arm-9 e x y q = rw e (q ∙ ap (λ (x : Text). plain_field nm W.k·struct-ptr-array-ptr W.absent x) y)

  pub arm-10 : k ≡ 10 → r ≡ plain_field nm W.k·tagged-fam-ptr W.t·frame W.absent → r ≡ field_as (kind_at k) l a nm n t
  unfolding kind_at field_as
  arm-10 e q = rw e (q)

  pub arm-11 : k ≡ 11 → r ≡ plain_field nm W.k·simple-fam-ptr W.t·legacy W.absent → r ≡ field_as (kind_at k) l a nm n t
  unfolding kind_at field_as
  arm-11 e q = rw e (q)

  pub arm-12 : k ≡ 12 → r ≡ plain_field nm W.k·opaque-ptr W.absent W.absent → r ≡ field_as (kind_at k) l a nm n t
  unfolding kind_at field_as
  arm-12 e q = rw e (q)

  pub arm-13 : k ≡ 13 → r ≡ plain_field nm W.k·fn-ptr W.absent W.absent → r ≡ field_as (kind_at k) l a nm n t
  unfolding kind_at field_as
  arm-13 e q = rw e (q)

  pub arm-14 : k ≡ 14 → r ≡ padding_field nm W.k·padding (n + 1) → r ≡ field_as (kind_at k) l a nm n t
  unfolding kind_at field_as
  arm-14 e q = rw e (q)

  pub arm-15 : (k ≡ 0 → ⊥) → (k ≡ 1 → ⊥) → (k ≡ 2 → ⊥) → (k ≡ 3 → ⊥) → (k ≡ 4 → ⊥) → (k ≡ 5 → ⊥) → (k ≡ 6 → ⊥) → (k ≡ 7 → ⊥) → (k ≡ 8 → ⊥) → (k ≡ 9 → ⊥) → (k ≡ 10 → ⊥) → (k ≡ 11 → ⊥) → (k ≡ 12 → ⊥) → (k ≡ 13 → ⊥) → (k ≡ 14 → ⊥) → r ≡ plain_field nm W.k·string W.absent W.absent → r ≡ field_as (kind_at k) l a nm n t
  unfolding field_as
  arm-15 h0 h1 h2 h3 h4 h5 h6 h7 h8 h9 h10 h11 h12 h13 h14 q = q ∙ rw (beyond k (none_of k h0 h1 h2 h3 h4 h5 h6 h7 h8 h9 h10 h11 h12 h13 h14))
