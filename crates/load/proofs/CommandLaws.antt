-- Commands and their bytes: what is written is read back, texts in the pool are without fault, fields and structures fit. Assumes nothing.
use Rattle.std.specs.Prelude.{Some}
use mathlib.Core.Path.{◌≡◌, refl, ap}
use mathlib.Core.List.{List, [], ◌∷◌, Memᴰ}
use mathlib.Core.Logic.{◌⊎◌, inl, inr}
use Prim.Native.Nat.{ℕ, ◌+◌, ◌*◌, ◌/◌, ◌%◌, ◌<◌, ◌≤◌}
use native.Mathlib.Omega.{arith}
use native.Mathlib.Nat.{div-add-mod}
use mathlib.Core.Bool.{true}
use lib.ListN.{length}
use borrow.Author.Tests.{ne_eqb, lt-ltb, le-leb}
use Rattle.texts.specs.Utf8.{inside}
use Rattle.texts.specs.Plain.{is_plain, all_plain}
use Rattle.texts.proofs.LetterLaws.{plain-no-tail}
use Rattle.record.specs.Base.{Str, bytes}
use Rattle.record.specs.Le.{u16_at}
use Rattle.record.specs.Operands.{text_at, opt_text, opt_text_at}
use Rattle.record.specs.Commands.{operands, wide, widths}
use Rattle.record.specs.Judge.{if_absent, text_fault, flag_fault, operand_fault, faults_from, may_stand, parent_after}
use Rattle.record.specs.declared.text.Text.{Text}
use Rattle.record.specs.declared.command.Parent.{Parent}
use Rattle.record.specs.declared.command.Parent.TheVariants.{InStruct}
use Rattle.record.specs.declared.refusal.Side.{Side}
use Rattle.record.specs.declared.judge.Fault.{Fault}
use Rattle.record.specs.declared.judge.Fault.TheVariants.{Fine, Outside}
use Rattle.load.specs.Pool as W
use Rattle.load.specs.Commands.{flag_of, field_bytes, StructCommand, struct_bytes}
use Rattle.load.specs.Generator.{field_commands, struct_commands}
use Rattle.load.specs.Written.{opcode, Fits, AllFit}
use Rattle.load.specs.declared.commands.FieldCommand.{FieldCommand}

-- numbers --------------------------------------------------------------------------------------------------------------------------------------------------

pub two_bytes : (n : ℕ) → n % 256 + 256 * (n / 256) ≡ n
two_bytes n = omega (arith, div-add-mod n 256)

pub four_bytes : (n : ℕ) → n % 256 + 256 * (n / 256 % 256) + 65536 * (n / 65536 % 256 + 256 * (n / 16777216)) ≡ n
four_bytes n = omega arith

-- texts ----------------------------------------------------------------------------------------------------------------------------------------------------

abbrev pub InPool : Text → Type 0
InPool t = t.start + t.len ≤ 971

abbrev pub MayPool : Text → Type 0
MayPool t = InPool t ⊎ (t ≡ W.absent)

-- a text as its bytes give it
abbrev back : Text → Text
back t = record { start = t.start % 256 + 256 * (t.start / 256); len = t.len }

pub back_is : (t : Text) → back t ≡ t
back_is t = ap (λ (n : ℕ). record { start = n; len = t.len }) (two_bytes t.start)

pub given : (t : Text) → InPool t → opt_text t ≡ Some t
unfolding opt_text
given t h = rw (ne_eqb t.start 65535 (λ e. omega arith))

pub pool-long : length W.pool ≡ 971
unfolding W.pool W.struct_names W.field_names W.kind_texts W.word_texts bytes
pool-long = refl

pub pool-plain : all_plain W.pool ≡ true
unfolding W.pool W.struct_names W.field_names W.kind_texts W.word_texts bytes all_plain is_plain inside
pool-plain = refl

pub text-fine : (t : Text) → InPool t → (a : Fault) → text_fault W.pool a (opt_text (back t)) ≡ Fine
text-fine t h a =
    let e : t.start + t.len ≤ length W.pool = omega (arith, pool-long, h) in
    rw (
      back_is t,
      given t h,
      le-leb (t.start + t.len) (length W.pool) e,
      plain-no-tail W.pool t.start pool-plain,
      plain-no-tail W.pool (t.start + t.len) pool-plain,
    )

may-fine : (t : Text) → MayPool t → text_fault W.pool Fine (opt_text (back t)) ≡ Fine
unfolding opt_text
may-fine t (inl h) = text-fine t h Fine
may-fine t (inr e) = ap (λ (x : Text). text_fault W.pool Fine (opt_text (back x))) e

flag-fine : (n : ℕ) → n < 2 → flag_fault n ≡ Fine
unfolding flag_fault
flag-fine n h = rw (lt-ltb n 2 h)

-- a field and a structure whose texts lie in the pool
pub record FieldFits (f : FieldCommand) : Type 0 where
  pub name : InPool f.name
  pub kind : InPool f.kind
  pub typ : MayPool f.typ
  pub element : MayPool f.element
  pub count : flag_of f.count < 2
  pub rows : flag_of f.rows < 2
  pub cols : flag_of f.cols < 2
  pub size : flag_of f.size < 2

pub record StructFits (s : StructCommand) : Type 0 where
  pub name : InPool s.name
  pub slot : MayPool s.slot
  pub version : MayPool s.version
  pub fields : (f : FieldCommand) → Memᴰ f s.fields → FieldFits f

module _ (side : Side) where
  field_fits : (last : ℕ) (f : FieldCommand) → FieldFits f → Fits side W.pool last InStruct (field_bytes f)
  unfolding field_bytes opcode operands widths wide may_stand bytes faults_from operand_fault if_absent opt_text_at text_at u16_at
  field_fits last f h = record {
    row = bytes "TTOONNNN";
    has-row = refl;
    whole = refl;
    stands = λ at. refl;
    fine = λ x. rw (
      text-fine f.name h.name Outside,
      text-fine f.kind h.kind Outside,
      may-fine f.typ h.typ,
      may-fine f.element h.element,
      flag-fine (flag_of f.count) h.count,
      flag-fine (flag_of f.rows) h.rows,
      flag-fine (flag_of f.cols) h.cols,
      flag-fine (flag_of f.size) h.size,
    );
    going = λ e. omega arith;
  }

  struct-fits : (last : ℕ) (parent : Parent) → (last ≡ 0 → ⊥) → (s : StructCommand) → StructFits s → Fits side W.pool last parent (struct_bytes s)
  unfolding struct_bytes opcode operands widths wide may_stand bytes faults_from operand_fault if_absent opt_text_at text_at u16_at
  struct-fits last parent n s h = record {
    row = bytes "TOO";
    has-row = refl;
    whole = refl;
    stands = λ at. rw (ne_eqb last 0 n);
    fine = λ x. rw (text-fine s.name h.name Outside, may-fine s.slot h.slot, may-fine s.version h.version);
    going = λ e. omega arith;
  }

  -- fields before commands that may follow them
  fields_fit : (fs : List FieldCommand) → ((f : FieldCommand) → Memᴰ f fs → FieldFits f) → (cs : List Str) → ((last : ℕ) → (last ≡ 0 → ⊥) → AllFit side W.pool last InStruct cs)
      → (last : ℕ) → (last ≡ 0 → ⊥) → AllFit side W.pool last InStruct (field_commands fs cs)
  unfolding field_commands field_bytes opcode parent_after
  fields_fit [] h cs k last n = k last n
  fields_fit (f ∷ fs) h cs k last n =
      (field_fits last f (h f (Memᴰ.head refl)), fields_fit fs (λ x m. h x (Memᴰ.tail m)) cs k 11 (λ e. omega arith))

  pub structs-fit : (ss : List StructCommand) → ((s : StructCommand) → Memᴰ s ss → StructFits s) → (last : ℕ) (parent : Parent) → (last ≡ 0 → ⊥) → AllFit side W.pool last parent (struct_commands ss [])
  unfolding struct_commands struct_bytes opcode parent_after
  structs-fit [] h last parent n = n
  structs-fit (s ∷ ss) h last parent n = (
    struct-fits last parent n s (h s (Memᴰ.head refl)),
    fields_fit s.fields (h s (Memᴰ.head refl)).fields (struct_commands ss []) (λ l m. structs-fit ss (λ x i. h x (Memᴰ.tail i)) l InStruct m) 8 (λ e. omega arith),
  )
