-- Drawn fields: their texts lie in the pool, and their sizes are at most 256. Assumes nothing.
use mathlib.Core.Path.{◌≡◌, refl}
use mathlib.Core.Bool.{Bool, true, false, cond}
use mathlib.Core.Logic.{inl, inr}
use Prim.Native.Nat.{ℕ, ◌+◌, ◌*◌, ◌%◌, ◌<◌, ◌≤◌}
use native.Mathlib.Omega.{arith}
use native.Mathlib.Nat.{mod-lt, mul-le-mul}
use lib.Dec.{eqb, leb, lit<, lit≤}
use borrow.Author.Tests.{leb-true}
use Rattle.record.specs.Base.{bytes, eqs, find, or_else, map_option}
use Rattle.record.specs.Stretch.{text_of}
use Rattle.record.specs.Operands.{opt_text}
use Rattle.record.specs.Scalars.{built_in, scalar_in, prim_size}
use Rattle.record.specs.Steps.{enum_in, alias_in, bitfield_in}
use Rattle.record.specs.Kind.{kind_of, words, kind_among}
use Rattle.record.specs.Shapes.{enum_size, alias_size, bitfield_size, sized, size_as, scalar_size, shape_size}
use Rattle.record.specs.declared.text.Text.{Text}
use Rattle.record.specs.declared.kind.Kind.{Kind}
use Rattle.record.specs.declared.kind.Kind.TheVariants as K
use Rattle.load.specs.Plan.{schema_with, released}
use Rattle.load.specs.Pool as W
use Rattle.load.specs.Commands.{meant_text, meant_number, field_meant}
use Rattle.load.specs.Draws
use Rattle.load.specs.Generator.{plan_of, enum_list, alias_list, bitfield_list}
use Rattle.load.proofs.Shared.{four}
use Rattle.load.proofs.CommandLaws.{InPool, MayPool, FieldFits}
use Rattle.load.specs.declared.settings.Setting.{Setting}

-- texts by a number -------------------------------------------------------------------------------------------------------------------------------------------

pub scalar-in : (n : ℕ) → InPool (Draws.scalar_text n)
unfolding Draws.scalar_text
scalar-in n = go (eqb n 0) (eqb n 1) (eqb n 2)
  where
    go : (a b c : Bool) → InPool (cond a W.t·u8 (cond b W.t·u16 (cond c W.t·u32 W.t·char)))
    go true b c = lit≤ tt
    go false true c = lit≤ tt
    go false false true = lit≤ tt
    go false false false = lit≤ tt

pub retyped-in : (n : ℕ) → InPool (Draws.retyped_text n)
unfolding Draws.retyped_text
retyped-in n = go (eqb n 0) (eqb n 1) (eqb n 2)
  where
    go : (a b c : Bool) → InPool (cond a W.t·u16 (cond b W.t·u32 (cond c W.t·char W.t·u32)))
    go true b c = lit≤ tt
    go false true c = lit≤ tt
    go false false true = lit≤ tt
    go false false false = lit≤ tt

pub was-in : (n : ℕ) → InPool (Draws.was_text n)
unfolding Draws.was_text
was-in n = go (eqb n 0) (eqb n 1) (eqb n 2)
  where
    go : (a b c : Bool) → InPool (cond a W.t·0·8·0 (cond b W.t·0·9·0 (cond c W.t·0·10·0 W.t·1·9·9)))
    go true b c = lit≤ tt
    go false true c = lit≤ tt
    go false false true = lit≤ tt
    go false false false = lit≤ tt

pub now-in : (n : ℕ) → InPool (Draws.now_text n)
unfolding Draws.now_text
now-in n = go (eqb n 0) (eqb n 1) (eqb n 2)
  where
    go : (a b c : Bool) → InPool (cond a W.t·0·9·0 (cond b W.t·0·10·0 (cond c W.t·1·0·0 W.t·1·10·0)))
    go true b c = lit≤ tt
    go false true c = lit≤ tt
    go false false true = lit≤ tt
    go false false false = lit≤ tt

pub slot-in : (n : ℕ) → InPool (Draws.slot_text n)
unfolding Draws.slot_text
slot-in n = go (eqb n 0) (eqb n 1)
  where
    go : (a b : Bool) → InPool (cond a W.t·metadata (cond b W.t·runtime W.t·info))
    go true b = lit≤ tt
    go false true = lit≤ tt
    go false false = lit≤ tt

enum-in : (n : ℕ) → InPool (Draws.enum_text n)
unfolding Draws.enum_text
enum-in n = go (eqb n 0)
  where
    go : (a : Bool) → InPool (cond a W.t·filter W.t·mode)
    go true = lit≤ tt
    go false = lit≤ tt

alias-in : (n : ℕ) → InPool (Draws.alias_text n)
unfolding Draws.alias_text
alias-in n = go (eqb n 0)
  where
    go : (a : Bool) → InPool (cond a W.t·ticks W.t·well)
    go true = lit≤ tt
    go false = lit≤ tt

pub struct-in : (l i : ℕ) → i < 8 → InPool (W.struct_text l i)
unfolding W.struct_text
struct-in l i h = let a : (l + i) % 14 < 14 = mod-lt (l + i) (lit< tt) in omega arith

pub field_in : (l i : ℕ) → i < 19 → InPool (W.field_text l i)
unfolding W.field_text
field_in l i h = let a : (l + i) % 14 < 14 = mod-lt (l + i) (lit< tt) in omega arith

-- rows ---------------------------------------------------------------------------------------------------------------------------------------------------------

abbrev away : MayPool W.absent
away = inr refl

pub plain_fits : (nm k ty : Text) → InPool nm → InPool k → MayPool ty → FieldFits (Draws.plain_field nm k ty W.absent)
plain_fits nm k ty a b c = record { name = a; kind = b; typ = c; element = away; count = lit< tt; rows = lit< tt; cols = lit< tt; size = lit< tt }

of-element : (nm k el : Text) → InPool nm → InPool k → MayPool el → FieldFits (Draws.plain_field nm k W.absent el)
of-element nm k el a b c = record { name = a; kind = b; typ = away; element = c; count = lit< tt; rows = lit< tt; cols = lit< tt; size = lit< tt }

module _ (l a : ℕ) (h : 0 < a) (j : a ≤ 8) (nm : Text) (p : InPool nm) (n t : ℕ) where
  struct-ref : InPool (W.struct_text l (t % a))
  struct-ref = struct-in l (t % a) (let q : t % a < a = mod-lt t h in omega arith)

  pub command-fits : (k : Kind) → FieldFits (Draws.field_as k l a nm n t)
  unfolding Draws.field_as
  command-fits K.Scalar = plain_fits nm W.k·scalar (Draws.scalar_text (t % 4)) p (lit≤ tt) (inl (scalar-in (t % 4)))
  command-fits K.Enum = plain_fits nm W.k·enum (Draws.enum_text (t % 2)) p (lit≤ tt) (inl (enum-in (t % 2)))
  command-fits K.TypeAlias = plain_fits nm W.k·type-alias (Draws.alias_text (t % 2)) p (lit≤ tt) (inl (alias-in (t % 2)))
  command-fits K.Bitfield = plain_fits nm W.k·bitfield W.t·flags p (lit≤ tt) (inl (lit≤ tt))
  command-fits K.InlineArray = record { name = p; kind = lit≤ tt; typ = away; element = inl (scalar-in (t % 4)); count = lit< tt; rows = lit< tt; cols = lit< tt; size = lit< tt }
  command-fits K.InlineArray2d = record { name = p; kind = lit≤ tt; typ = away; element = inl (scalar-in (t % 4)); count = lit< tt; rows = lit< tt; cols = lit< tt; size = lit< tt }
  command-fits K.CstrPtr = plain_fits nm W.k·cstr-ptr W.absent p (lit≤ tt) away
  command-fits K.StructPtr = plain_fits nm W.k·struct-ptr (W.struct_text l (t % a)) p (lit≤ tt) (inl struct-ref)
  command-fits K.StructArrayPtr = of-element nm W.k·struct-array-ptr (W.struct_text l (t % a)) p (lit≤ tt) (inl struct-ref)
  command-fits K.StructPtrArrayPtr = of-element nm W.k·struct-ptr-array-ptr (W.struct_text l (t % a)) p (lit≤ tt) (inl struct-ref)
  command-fits K.TaggedFamPtr = plain_fits nm W.k·tagged-fam-ptr W.t·frame p (lit≤ tt) (inl (lit≤ tt))
  command-fits K.SimpleFamPtr = plain_fits nm W.k·simple-fam-ptr W.t·legacy p (lit≤ tt) (inl (lit≤ tt))
  command-fits K.OpaquePtr = plain_fits nm W.k·opaque-ptr W.absent p (lit≤ tt) away
  command-fits K.FnPtr = plain_fits nm W.k·fn-ptr W.absent p (lit≤ tt) away
  command-fits K.Padding = record { name = p; kind = lit≤ tt; typ = away; element = away; count = lit< tt; rows = lit< tt; cols = lit< tt; size = lit< tt }
  command-fits K.Text = plain_fits nm W.k·string W.absent p (lit≤ tt) away
  command-fits K.Other = plain_fits nm W.k·string W.absent p (lit≤ tt) away

-- sizes --------------------------------------------------------------------------------------------------------------------------------------------------------

-- of a scalar word, an enum and an alias of the shared sections
scalar_sized : ℕ → ℕ
scalar_sized n = prim_size built_in (or_else (meant_text (Draws.scalar_text n)) (bytes "u8"))

scalar-small : (n : ℕ) → n < 4 → leb (scalar_sized n) 4 ≡ true
unfolding scalar_sized Draws.scalar_text prim_size scalar_in find built_in or_else meant_text opt_text text_of W.pool W.struct_names W.field_names W.kind_texts W.word_texts bytes eqs
scalar-small = four (λ (n : ℕ). leb (scalar_sized n) 4 ≡ true) refl refl refl refl

enum-small : (n : ℕ) → leb (sized (meant_text (Draws.enum_text n)) (enum_size enum_list) 1) 4 ≡ true
unfolding Draws.enum_text sized enum_size enum_in map_option enum_list find or_else meant_text opt_text text_of W.pool W.struct_names W.field_names W.kind_texts W.word_texts bytes eqs
enum-small n = go (eqb n 0)
  where
    go : (a : Bool) → leb (sized (meant_text (cond a W.t·filter W.t·mode)) (enum_size enum_list) 1) 4 ≡ true
    go true = refl
    go false = refl

alias-small : (n : ℕ) → leb (sized (meant_text (Draws.alias_text n)) (alias_size built_in alias_list) 2) 4 ≡ true
unfolding Draws.alias_text sized alias_size alias_in map_option alias_list find or_else meant_text opt_text text_of W.pool W.struct_names W.field_names W.kind_texts W.word_texts bytes eqs prim_size scalar_in built_in
alias-small n = go (eqb n 0)
  where
    go : (a : Bool) → leb (sized (meant_text (cond a W.t·ticks W.t·well)) (alias_size built_in alias_list) 2) 4 ≡ true
    go true = refl
    go false = refl

flags-small : sized (meant_text W.t·flags) (bitfield_size bitfield_list) 0 ≤ 256
unfolding sized bitfield_size bitfield_in map_option bitfield_list find or_else meant_text opt_text text_of W.pool W.struct_names W.field_names W.kind_texts W.word_texts bytes eqs
flags-small = lit≤ tt

up : (n : ℕ) → leb n 4 ≡ true → n ≤ 256
up n h = let a = leb-true n 4 h in omega arith

times : (w n : ℕ) → w ≤ 4 → n < 8 → w * (n + 1) ≤ 32
times w n a b = mul-le-mul {n₁ = w} {m₁ = n + 1} {n₂ = 4} {m₂ = 8} a (omega arith)

module _ (g : Setting) where
  pub command-small : (k : Kind) (l a : ℕ) (nm : Text) (n t : ℕ) → n < 8 → t < 8 → shape_size (released (plan_of g)) (field_meant (Draws.field_as k l a nm n t)) ≤ 256
  unfolding Draws.field_as shape_size size_as scalar_size kind_of kind_among words eqs field_meant text_of W.pool W.struct_names W.field_names W.kind_texts W.word_texts bytes released schema_with plan_of meant_number or_else scalar_sized
  command-small K.Scalar l a nm n t b c = up (scalar_sized (t % 4)) (scalar-small (t % 4) (mod-lt t (lit< tt)))
  command-small K.Enum l a nm n t b c = up (sized (meant_text (Draws.enum_text (t % 2))) (enum_size enum_list) 1) (enum-small (t % 2))
  command-small K.TypeAlias l a nm n t b c = up (sized (meant_text (Draws.alias_text (t % 2))) (alias_size built_in alias_list) 2) (alias-small (t % 2))
  command-small K.Bitfield l a nm n t b c = flags-small
  command-small K.InlineArray l a nm n t b c =
      let q = times (scalar_sized (t % 4)) n (leb-true (scalar_sized (t % 4)) 4 (scalar-small (t % 4) (mod-lt t (lit< tt)))) b in omega arith
  command-small K.InlineArray2d l a nm n t b c =
      mul-le-mul {n₁ = scalar_sized (t % 4) * (n + 1)} {m₁ = t + 1} {n₂ = 32} {m₂ = 8} (times (scalar_sized (t % 4)) n (leb-true (scalar_sized (t % 4)) 4 (scalar-small (t % 4) (mod-lt t (lit< tt)))) b) (omega arith)
  command-small K.CstrPtr l a nm n t b c = lit≤ tt
  command-small K.StructPtr l a nm n t b c = lit≤ tt
  command-small K.StructArrayPtr l a nm n t b c = lit≤ tt
  command-small K.StructPtrArrayPtr l a nm n t b c = lit≤ tt
  command-small K.TaggedFamPtr l a nm n t b c = lit≤ tt
  command-small K.SimpleFamPtr l a nm n t b c = lit≤ tt
  command-small K.OpaquePtr l a nm n t b c = lit≤ tt
  command-small K.FnPtr l a nm n t b c = lit≤ tt
  command-small K.Padding l a nm n t b c = omega arith
  command-small K.Text l a nm n t b c = lit≤ tt
  command-small K.Other l a nm n t b c = lit≤ tt
