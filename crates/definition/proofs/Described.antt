-- Equal descriptions have equal kinds: a description's first word is the kind. Assumes nothing.
use Rattle.std.specs.Prelude.{Option, Some, None}
use mathlib.Core.Path.{◌≡◌, refl, sym, ◌∙◌, ap, subst}
use mathlib.Core.List.Memᴰ
use mathlib.Core.List.{List, [], ◌∷◌, ◌++◌, Memᴰ}
use mathlib.Core.Bool.{Bool, true, false, ◌&&◌, not, cond, false≢true}
use Prim.Native.Nat.{ℕ, ◌+◌}
use lib.Dec.{eqb}
use Rattle.record.specs.Base.{Str, bytes}
use Rattle.record.specs.Schema.{Schema, Field, Family}
use Rattle.record.specs.Kind.{words, kind_words, kind_of, is_padding}
use Rattle.record.specs.Shapes.{shape_size, spaced, named, rest_as, shape_type, FieldLayout, place_of, places, plain, fam_prefix}
use Rattle.record.specs.declared.kind.Kind.{Kind}
use Rattle.record.specs.declared.kind.Kind.TheVariants as K
use Rattle.record.proofs.Basics.{both}
use Rattle.layout.specs.Layout.{TypeLayout, lay_struct, lay_family, lay_variant, types}
use Rattle.layout.proofs.Origin.{From, of-struct, of-family, of-variant, from-types}
use Rattle.definition.specs.Pass.{all_of}
use Rattle.definition.specs.Chain.{Kinded, Kinds}
use Rattle.definition.proofs.Lists.{all-of}

-- the bytes before the first space
word : Str → Str
word [] = []
word (a ∷ s) = cond (eqb a 32) [] (a ∷ word s)

clean : Str → Bool
clean [] = true
clean (a ∷ s) = not (eqb a 32) && clean s

starts : Str → Bool
starts [] = true
starts (a ∷ s) = eqb a 32

word-append : (k r : Str) → clean k ≡ true → starts r ≡ true → word (k ++ r) ≡ k
unfolding word clean starts
word-append [] [] c s = refl
word-append [] (b ∷ r) c s = rw s
word-append (a ∷ k) r c s = go (eqb a 32) (both (not (eqb a 32)) (clean k) c).0 (word-append k r (both (not (eqb a 32)) (clean k) c).1 s)
  where
    go : (b : Bool) → not b ≡ true → word (k ++ r) ≡ k → cond b [] (a ∷ word (k ++ r)) ≡ a ∷ k
    go true n e = absurd (false≢true n)
    go false n e = ap (λ (t : Str). a ∷ t) e

starts-spaced : (o : Option Str) → starts (spaced o) ≡ true
unfolding starts spaced
starts-spaced None = refl
starts-spaced (Some n) = refl

starts-rest : (k : Kind) (f : Field) → starts (rest_as k f) ≡ true
unfolding starts rest_as named
starts-rest K.Scalar f = starts-spaced _
starts-rest K.Enum f = starts-spaced _
starts-rest K.TypeAlias f = starts-spaced _
starts-rest K.Bitfield f = starts-spaced _
starts-rest K.InlineArray f = refl
starts-rest K.InlineArray2d f = refl
starts-rest K.CstrPtr f = starts-spaced _
starts-rest K.StructPtr f = starts-spaced _
starts-rest K.StructArrayPtr f = starts-spaced _
starts-rest K.StructPtrArrayPtr f = starts-spaced _
starts-rest K.TaggedFamPtr f = starts-spaced _
starts-rest K.SimpleFamPtr f = starts-spaced _
starts-rest K.OpaquePtr f = starts-spaced _
starts-rest K.FnPtr f = starts-spaced _
starts-rest K.Padding f = starts-spaced _
starts-rest K.Text f = starts-spaced _
starts-rest K.Other f = starts-spaced _

kinds-clean : all_of clean kind_words ≡ true
unfolding all_of clean kind_words words bytes
kinds-clean = refl

word-kind : (f : Field) → Memᴰ f.kind kind_words → word (shape_type f) ≡ f.kind
unfolding shape_type
word-kind f m = word-append f.kind (rest_as (kind_of f.kind) f) (all-of clean kind_words kinds-clean m) (starts-rest (kind_of f.kind) f)

-- a place tells of the field that it comes from
pub record Told (p : FieldLayout) : Type 0 where
  pub field : Field
  pub kinded : Memᴰ field.kind kind_words
  pub described : p.described ≡ shape_type field
  pub padding : p.padding ≡ is_padding (kind_of field.kind)

pub same-padding : (p q : FieldLayout) → Told p → Told q → p.described ≡ q.described → p.padding ≡ q.padding
same-padding p q tp tq e =
    let k : tp.field.kind ≡ tq.field.kind =
    sym (word-kind tp.field tp.kinded) ∙ ap word (sym tp.described ∙ e ∙ tq.described) ∙ word-kind tq.field tq.kinded in
    tp.padding ∙ ap (λ (s : Str). is_padding (kind_of s)) k ∙ sym tq.padding

places-told : (s : Schema) (at : ℕ) (fs : List Field) → Kinded fs → {p : FieldLayout} → Memᴰ p (places s at fs) → Told p
unfolding places place_of
places-told s at [] k m = absurd (Memᴰ.not-nil m)
places-told s at (f ∷ fs) k (Memᴰ.head e) =
    record { field = f; kinded = k f (Memᴰ.head refl); described = ap (λ (q : FieldLayout). q.described) e; padding = ap (λ (q : FieldLayout). q.padding) e }
places-told s at (f ∷ fs) k (Memᴰ.tail m) = places-told s (at + shape_size s f) fs (λ g n. k g (Memᴰ.tail n)) m

prefix-kinded : (m : Family) → Kinded m.common → Kinded (fam_prefix m ++ m.common)
unfolding fam_prefix plain kind_words words
prefix-kinded m k f (Memᴰ.head e) = Memᴰ.tail (Memᴰ.head (ap (λ (g : Field). g.kind) e))
prefix-kinded m k f (Memᴰ.tail (Memᴰ.head e)) = Memᴰ.head (ap (λ (g : Field). g.kind) e)
prefix-kinded m k f (Memᴰ.tail (Memᴰ.tail n)) = k f n

pub told : (s : Schema) → Kinds s → {t : TypeLayout} → Memᴰ t (types s) → {p : FieldLayout} → Memᴰ p t.fields → Told p
unfolding lay_struct lay_family lay_variant
told s g {t} m {p} n = go (from-types s m)
  where
    placed : {u : TypeLayout} → t ≡ u → Memᴰ p u.fields
    placed e = subst (λ (x : TypeLayout). Memᴰ p x.fields) e n

    go : From s t → Told p
    go (of-struct x i e) = places-told s 0 x.fields (g.of-struct x i) (placed e)
    go (of-family x i e) = places-told s 0 (fam_prefix x ++ x.common) (prefix-kinded x (g.of-family x i)) (placed e)
    go (of-variant x i v j e) = places-told s 0 v.fields (g.of-variant x i v j) (placed e)
