-- One field: the definition finds no error exactly where the field points where it must, and else the number that the rule gives. Assumes nothing.
use Rattle.std.specs.Prelude.{Option, Some, None}
use mathlib.Core.Path.{◌≡◌, refl, sym, ◌∙◌, ap, subst}
use mathlib.Core.Bool.{Bool, true, false, false≢true}
use mathlib.Core.Logic.{◌⊎◌, inl, inr}
use Prim.Native.Nat.{ℕ}
use native.Mathlib.Omega.{arith}
use Rattle.record.specs.Base.{Str, eqs, is_some}
use Rattle.record.specs.Schema.{Field, Struct, Family}
use Rattle.record.specs.Steps.{struct_in, family_in}
use Rattle.record.specs.Kind.{kind_of}
use Rattle.record.specs.Owner.{Types, referenced_as, referenced}
use Rattle.record.specs.declared.kind.Kind.{Kind}
use Rattle.record.specs.declared.kind.Kind.TheVariants as K
use Rattle.record.proofs.Basics.{eqs→eq, eqs-refl, find-some, find-any, none≢some}
use Rattle.pointers.specs.declared.rule.Pointee.{Pointee}
use Rattle.pointers.specs.declared.rule.Pointee.TheVariants.{ToStruct, ToFamily, Unjudged}
use Rattle.pointers.specs.Pointers.{pointee_of, name_fault, is_struct, is_family, pointee_fault, field_fault}
use Rattle.pointers.specs.Rule.{StructPointer, FamilyPointer, NamesStruct, NamesFamily, Points, Breaks, no-struct, only-family, no-family, only-struct}

-- a name ----------------------------------------------------------------------------------------------------------------------------------

present : {A : Type 0} (o : Option A) → is_some o ≡ true → (a : A) × (o ≡ Some a)
unfolding is_some
present None e = absurd (false≢true e)
present (Some a) e = (a, refl)

module _ (t : Types) (n : Str) where
  struct-named : is_struct t n ≡ true → NamesStruct t (Some n)
  unfolding is_struct struct_in
  struct-named h =
      let f = present (struct_in n t.structs) h in
      let w = find-some (λ (u : Struct). eqs u.name n) t.structs f.1 in
      record { struct = f.0; declared = w.0; named = ap Some (sym (eqs→eq _ _ w.1)) }

  struct-found : NamesStruct t (Some n) → is_struct t n ≡ true
  unfolding is_struct struct_in is_some
  struct-found h =
      let e : h.struct.name ≡ n = sym (let z : n ≡ h.struct.name = cc in z) in
      let w = find-any (λ (u : Struct). eqs u.name n) t.structs h.declared (rw e (eqs-refl n)) in
      rw w.1

  family-named : is_family t n ≡ true → NamesFamily t (Some n)
  unfolding is_family family_in
  family-named h =
      let f = present (family_in n t.families) h in
      let w = find-some (λ (m : Family). eqs m.name n) t.families f.1 in
      record { family = f.0; declared = w.0; named = ap Some (sym (eqs→eq _ _ w.1)) }

  family-found : NamesFamily t (Some n) → is_family t n ≡ true
  unfolding is_family family_in is_some
  family-found h =
      let e : h.family.name ≡ n = sym (let z : n ≡ h.family.name = cc in z) in
      let w = find-any (λ (m : Family). eqs m.name n) t.families h.declared (rw e (eqs-refl n)) in
      rw w.1

-- what an error says of a name that must be one thing and could be another
abbrev Named : Type 0 → Type 0 → Option ℕ → Type 0
Named A B None = A
Named A B (Some n) = ((A → ⊥) × (B → ⊥) × (n ≡ 59)) ⊎ ((A → ⊥) × B × (n ≡ 60))

named : (A B : Type 0) (a b : Bool) → (a ≡ true → A) → (A → a ≡ true) → (b ≡ true → B) → (B → b ≡ true) → Named A B (name_fault a b)
unfolding name_fault
named A B true b f g h k = f refl
named A B false true f g h k = inr (λ x. false≢true (g x), h refl, refl)
named A B false false f g h k = inl (λ x. false≢true (g x), λ y. false≢true (k y), refl)

module _ (t : Types) where
  struct-judged : (o : Option Str) → Named (NamesStruct t o) (NamesFamily t o) (pointee_fault t ToStruct o)
  unfolding pointee_fault
  struct-judged None = inl (λ x. none≢some x.named, λ y. none≢some y.named, refl)
  struct-judged (Some n) = named _ _ (is_struct t n) (is_family t n) (struct-named t n) (struct-found t n) (family-named t n) (family-found t n)

  family-judged : (o : Option Str) → Named (NamesFamily t o) (NamesStruct t o) (pointee_fault t ToFamily o)
  unfolding pointee_fault
  family-judged None = inl (λ x. none≢some x.named, λ y. none≢some y.named, refl)
  family-judged (Some n) = named _ _ (is_family t n) (is_struct t n) (family-named t n) (family-found t n) (struct-named t n) (struct-found t n)

-- a field ---------------------------------------------------------------------------------------------------------------------------------

-- what an error, or none, means of a field
abbrev pub FaultMeans : Types → Field → Option ℕ → Type 0
FaultMeans t f None = Points t f
FaultMeans t f (Some n) = Breaks t f n

module _ (t : Types) (f : Field) where
  abbrev must : Pointee
  must = pointee_of (kind_of f.kind)

  struct-pointee : (o : Option Str) → StructPointer f o → must ≡ ToStruct
  struct-pointee o (inl (e, d)) = ap pointee_of e
  struct-pointee o (inr (inl (e, d))) = ap pointee_of e
  struct-pointee o (inr (inr (e, d))) = ap pointee_of e

  struct-operand : (o : Option Str) → StructPointer f o → o ≡ referenced f
  unfolding referenced referenced_as
  struct-operand o (inl (e, d)) = rw e d
  struct-operand o (inr (inl (e, d))) = rw e d
  struct-operand o (inr (inr (e, d))) = rw e d

  apart : must ≡ ToStruct → must ≡ ToFamily → ⊥
  apart a b = let z : ◌≡◌ {A = ℕ} 0 1 = cc in omega arith

  free : must ≡ Unjudged → Points t f
  free u = (
    λ o s. absurd (let a = struct-pointee o s in let z : ◌≡◌ {A = ℕ} 0 1 = cc in omega arith),
    λ o m. absurd (let a : must ≡ ToFamily = ap pointee_of m.0 in let z : ◌≡◌ {A = ℕ} 0 1 = cc in omega arith),
  )

  to-struct : (o : Option Str) → StructPointer f o → (x : Option ℕ) → Named (NamesStruct t o) (NamesFamily t o) x → FaultMeans t f x
  to-struct o s None w = (
    λ q z. subst (NamesStruct t) (struct-operand o s ∙ sym (struct-operand q z)) w,
    λ q m. absurd (apart (struct-pointee o s) (ap pointee_of m.0)),
  )
  to-struct o s (Some n) (inl (a, b, e)) = no-struct o s a b e
  to-struct o s (Some n) (inr (a, b, e)) = only-family o s a b e

  to-family : (o : Option Str) → FamilyPointer f o → (x : Option ℕ) → Named (NamesFamily t o) (NamesStruct t o) x → FaultMeans t f x
  to-family o m None w = (λ q s. absurd (apart (struct-pointee q s) (ap pointee_of m.0)), λ q n. subst (NamesFamily t) (m.1 ∙ sym n.1) w)
  to-family o m (Some n) (inl (a, b, e)) = no-family o m a b e
  to-family o m (Some n) (inr (a, b, e)) = only-struct o m a b e

  fault-means-as : (k : Kind) → kind_of f.kind ≡ k → FaultMeans t f (pointee_fault t (pointee_of k) (referenced_as k f))
  unfolding referenced_as pointee_fault
  fault-means-as K.StructPtr e = to-struct f.typ (inl (e, refl)) (pointee_fault t ToStruct f.typ) (struct-judged t f.typ)
  fault-means-as K.StructArrayPtr e = to-struct f.element (inr (inl (e, refl))) (pointee_fault t ToStruct f.element) (struct-judged t f.element)
  fault-means-as K.StructPtrArrayPtr e = to-struct f.element (inr (inr (e, refl))) (pointee_fault t ToStruct f.element) (struct-judged t f.element)
  fault-means-as K.TaggedFamPtr e = to-family f.typ (e, refl) (pointee_fault t ToFamily f.typ) (family-judged t f.typ)
  fault-means-as K.SimpleFamPtr e = free (ap pointee_of e)
  fault-means-as K.Scalar e = free (ap pointee_of e)
  fault-means-as K.Enum e = free (ap pointee_of e)
  fault-means-as K.TypeAlias e = free (ap pointee_of e)
  fault-means-as K.Bitfield e = free (ap pointee_of e)
  fault-means-as K.InlineArray e = free (ap pointee_of e)
  fault-means-as K.InlineArray2d e = free (ap pointee_of e)
  fault-means-as K.CstrPtr e = free (ap pointee_of e)
  fault-means-as K.OpaquePtr e = free (ap pointee_of e)
  fault-means-as K.FnPtr e = free (ap pointee_of e)
  fault-means-as K.Padding e = free (ap pointee_of e)
  fault-means-as K.Text e = free (ap pointee_of e)
  fault-means-as K.Other e = free (ap pointee_of e)

  pub fault-means : FaultMeans t f (field_fault t f)
  unfolding field_fault referenced
  fault-means = fault-means-as (kind_of f.kind) refl

  breaks-points : (n : ℕ) → Breaks t f n → Points t f → ⊥
  breaks-points n (no-struct o s a b e) p = a (p.0 o s)
  breaks-points n (only-family o s a b e) p = a (p.0 o s)
  breaks-points n (no-family o m a b e) p = a (p.1 o m)
  breaks-points n (only-struct o m a b e) p = a (p.1 o m)

  -- a field that points where it must has no error
  pub points_none : (x : Option ℕ) → FaultMeans t f x → Points t f → x ≡ None
  points_none None j p = refl
  points_none (Some n) j p = absurd (breaks-points n j p)

  pub breaks-number : (n : ℕ) → Breaks t f n → n ≡ 0 → ⊥
  breaks-number n (no-struct o s a b e) z = omega (arith, e, z)
  breaks-number n (only-family o s a b e) z = omega (arith, e, z)
  breaks-number n (no-family o m a b e) z = omega (arith, e, z)
  breaks-number n (only-struct o m a b e) z = omega (arith, e, z)
