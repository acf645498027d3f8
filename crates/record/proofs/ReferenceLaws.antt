-- What each way out of the look-ups of references and slots says. Assumes nothing.
use Rattle.std.specs.Prelude.{Option, Some, None}
use mathlib.Core.Path.{◌≡◌, refl, sym, ap, subst, ◌∙◌}
use mathlib.Core.List.{List, [], ◌∷◌}
use mathlib.Core.Bool.{Bool, true, false}
use mathlib.Core.Logic.{⊎_elim}
use Prim.Native.Nat.{ℕ}
use types.Run.{OneOf}
use denote.Enum.Declared.{tag_of}
use lib.ListN.{drop, get_or}
use Rattle.record.specs.Base.{Str, eqs, is_text, is_some}
use Rattle.record.specs.Stretch.{text_of}
use Rattle.record.specs.Schema.{Field, Key}
use Rattle.record.specs.Kind.{kind_of}
use Rattle.record.specs.Operands.{text_at, opt_text_at}
use Rattle.record.specs.Commands.{field_at}
use Rattle.record.specs.Lists.{opt_of, field_of}
use Rattle.record.specs.Index.{Indexed, Declared}
use Rattle.record.specs.Owner.{referenced, referenced_as, slotted, has_slot}
use Rattle.record.specs.References.{types_at, Refers, HasSlot}
use Rattle.record.specs.declared.text.Text.{Text}
use Rattle.record.specs.declared.kind.Kind.{Kind}
use Rattle.record.specs.declared.kind.Kind.TheVariants as K
use Rattle.record.specs.declared.command as D
use Rattle.record.specs.contracts.kind.Kind.{the_type as kinds}

-- referenced_type --------------------------------------------------------------------------------------------------------

-- what holds of each of some numbers holds of one of them
abbrev All : (ℕ → Type 0) → List ℕ → Type 0
All P [] = Unit
All P (k ∷ ks) = P k × All P ks

one_of : (P : ℕ → Type 0) (ks : List ℕ) {x : ℕ} → All P ks → OneOf ks x → P x
one_of P [] a h = absurd h
one_of P (k ∷ []) a h = subst P (sym h) a.0
one_of P (k ∷ j ∷ ks) a h = ⊎_elim (λ e. subst P (sym e) a.0) (λ g. one_of P (j ∷ ks) a.1 g) h

-- the kinds by their tags
kind_at : ℕ → Kind
kind_at n =
    get_or
    (K.Scalar ∷ K.Enum ∷ K.TypeAlias ∷ K.Bitfield ∷ K.InlineArray ∷ K.InlineArray2d ∷ K.CstrPtr ∷ K.StructPtr ∷ K.StructArrayPtr ∷ K.StructPtrArrayPtr ∷ K.TaggedFamPtr ∷ K.SimpleFamPtr ∷ K.OpaquePtr ∷ K.FnPtr ∷ K.Padding ∷ K.Text ∷ [])
    n K.Other

tag-gives : (k : Kind) → kind_at (tag_of kinds k) ≡ k
unfolding kind_at
tag-gives K.Scalar = refl
tag-gives K.Enum = refl
tag-gives K.TypeAlias = refl
tag-gives K.Bitfield = refl
tag-gives K.InlineArray = refl
tag-gives K.InlineArray2d = refl
tag-gives K.CstrPtr = refl
tag-gives K.StructPtr = refl
tag-gives K.StructArrayPtr = refl
tag-gives K.StructPtrArrayPtr = refl
tag-gives K.TaggedFamPtr = refl
tag-gives K.SimpleFamPtr = refl
tag-gives K.OpaquePtr = refl
tag-gives K.FnPtr = refl
tag-gives K.Padding = refl
tag-gives K.Text = refl
tag-gives K.Other = refl

module _ (p y : Str) (t : Text) (w : Str) (v : Kind) (word : t ≡ text_at y 4) (named : w ≡ text_of p t) (meant : v ≡ kind_of w) where
  -- a field of a kind with this tag refers to what r means
  abbrev As : Option Text → ℕ → Type 0
  As r n = (k : Option Key) → opt_of p r ≡ referenced_as (kind_at n) (field_of p (field_at y) k)

  refers-as : (r : Option Text) (ks : List ℕ) → All (As r) ks → OneOf ks (tag_of kinds v) → Refers p (field_at y) r
  unfolding referenced
  refers-as r ks a h =
      let g = one_of (As r) ks a h in
      record { name = λ k. g k ∙ ap (λ (x : Kind). referenced_as x (field_of p (field_at y) k)) (tag-gives v ∙ meant ∙ ap kind_of (named ∙ ap (text_of p) word)) }

  pub refers-type : (r : Option Text) → r ≡ opt_text_at y 7 → OneOf (7 ∷ 10 ∷ 11 ∷ []) (tag_of kinds v) → Refers p (field_at y) r
  unfolding referenced_as kind_at
  refers-type r e h = rw e (refers-as (opt_text_at y 7) (7 ∷ 10 ∷ 11 ∷ []) (λ k. refl, (λ k. refl, (λ k. refl, tt))) h)

  pub refers-element : (r : Option Text) → r ≡ opt_text_at y 10 → OneOf (8 ∷ 9 ∷ []) (tag_of kinds v) → Refers p (field_at y) r
  unfolding referenced_as kind_at
  refers-element r e h = rw e (refers-as (opt_text_at y 10) (8 ∷ 9 ∷ []) (λ k. refl, (λ k. refl, tt)) h)

  pub refers-nowhere : OneOf (0 ∷ 1 ∷ 2 ∷ 3 ∷ 4 ∷ 5 ∷ 6 ∷ 12 ∷ 13 ∷ 14 ∷ 15 ∷ 16 ∷ []) (tag_of kinds v) → Refers p (field_at y) None
  unfolding referenced_as kind_at
  refers-nowhere h =
      refers-as None (0 ∷ 1 ∷ 2 ∷ 3 ∷ 4 ∷ 5 ∷ 6 ∷ 12 ∷ 13 ∷ 14 ∷ 15 ∷ 16 ∷ [])
      (λ k. refl, (λ k. refl, (λ k. refl, (λ k. refl, (λ k. refl, (λ k. refl, (λ k. refl, (λ k. refl, (λ k. refl, (λ k. refl, (λ k. refl, (λ k. refl, tt)))))))))))) h

pub ruleset reference-laws = (refers-type, refers-element, refers-nowhere)

-- what a field refers to does not depend on its plugin key
key-free : (k : Kind) (f g : Field) → f.typ ≡ g.typ → f.element ≡ g.element → referenced_as k f ≡ referenced_as k g
unfolding referenced_as
key-free K.Scalar f g t e = refl
key-free K.Enum f g t e = refl
key-free K.TypeAlias f g t e = refl
key-free K.Bitfield f g t e = refl
key-free K.InlineArray f g t e = refl
key-free K.InlineArray2d f g t e = refl
key-free K.CstrPtr f g t e = refl
key-free K.StructPtr f g t e = t
key-free K.StructArrayPtr f g t e = e
key-free K.StructPtrArrayPtr f g t e = e
key-free K.TaggedFamPtr f g t e = t
key-free K.SimpleFamPtr f g t e = t
key-free K.OpaquePtr f g t e = refl
key-free K.FnPtr f g t e = refl
key-free K.Padding f g t e = refl
key-free K.Text f g t e = refl
key-free K.Other f g t e = refl

pub referenced-key : (p : Str) (f : D.Field.Field) (k j : Option Key) → referenced (field_of p f k) ≡ referenced (field_of p f j)
unfolding referenced
referenced-key p f k j = key-free (kind_of (text_of p f.kind)) _ _ refl refl

-- has_slot ---------------------------------------------------------------------------------------------------------------

module _ (s p : Str) (x : List ℕ) (n : Str) (r : Option (ℕ × ℕ)) (found : Declared s p x 8 n r) where
  pub slot-none : r ≡ None → HasSlot s p x n false
  unfolding has_slot slotted
  slot-none m = record { is = λ i. rw ((found.named i).struct refl, m) }

  module _ (a k : ℕ) (y : Str) (o : Option Text) (m : r ≡ Some (a, k)) (d : y ≡ drop a s) (e : o ≡ opt_text_at y 4) where
    has : (v : Option Text) → o ≡ v → (i : Indexed s p x) → is_some (opt_of p v) ≡ has_slot (types_at s p) n
    unfolding has_slot slotted
    has v h i = ap (λ (z : Option Text). is_some (opt_of p z)) (sym h ∙ e ∙ ap (λ (z : Str). opt_text_at z 4) d) ∙ sym (rw ((found.named i).struct refl, m))

    pub slot-absent : o ≡ None → HasSlot s p x n false
    unfolding is_some
    slot-absent h = record { is = λ i. has None h i }

    pub slot-given : (t : Text) → o ≡ Some t → HasSlot s p x n true
    unfolding is_some
    slot-given t h = record { is = λ i. has (Some t) h i }

pub ruleset has-slot-laws = (slot-none, slot-absent, slot-given)

-- is_text ----------------------------------------------------------------------------------------------------------------

module _ (p n : Str) (o : Option Text) where
  pub text-absent : o ≡ None → false ≡ is_text (opt_of p o) n
  unfolding is_text
  text-absent m = rw m

  pub text_same : (t : Text) (w : Str) (b : Bool) → o ≡ Some t → w ≡ text_of p t → b ≡ eqs w n → b ≡ is_text (opt_of p o) n
  unfolding is_text
  text_same t w b m h e = rw m (e ∙ ap (λ (x : Str). eqs x n) h)

pub ruleset is-text-laws = (text-absent, text_same)
