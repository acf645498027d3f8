-- Equality tests of layouts; unique names; names before "::". Assumes nothing.
use Rattle.std.specs.Prelude.{Option, Some, None}
use mathlib.Core.Path.{◌≡◌, refl, sym, ◌∙◌, ap, ap₂}
use mathlib.Core.List.Memᴰ
use mathlib.Core.List.{List, [], ◌∷◌, map, Memᴰ}
use mathlib.Core.Bool.{Bool, true, false, false≢true, beq}
use Prim.Native.Nat.{ℕ}
use native.Mathlib.Omega.{arith}
use lib.Dec.{eqb}
use borrow.Author.Tests.{eqb-true, ne_eqb}
use Rattle.record.specs.Base.{Str, eqs, with_some}
use Rattle.record.specs.Schema.{Struct}
use Rattle.record.specs.Shapes.{FieldLayout}
use Rattle.layout.specs.Layout.{variant_name}
use Rattle.definition.specs.Fields.{eq_place, eq_places}
use Rattle.definition.specs.Coverage.{owning}
use Rattle.definition.specs.Chain.{NoDup, NoColon, slots_of}
use Rattle.record.proofs.Basics.{both, eqs→eq}

pub beq→eq : (a b : Bool) → beq a b ≡ true → a ≡ b
beq→eq true true h = refl
beq→eq true false h = absurd (false≢true h)
beq→eq false true h = absurd (false≢true h)
beq→eq false false h = refl

pub eq_place→eq : (a b : FieldLayout) → eq_place a b ≡ true → a ≡ b
unfolding eq_place
eq_place→eq a b h =
    let k₁ = both _ (beq a.padding b.padding) h in
    let k₂ = both _ (eqs a.described b.described) k₁.0 in
    let k₃ = both _ (eqb a.size b.size) k₂.0 in
    let k₄ = both _ (eqb a.offset b.offset) k₃.0 in
    let n = eqs→eq a.name b.name k₄.0 in
    let o = eqb-true a.offset b.offset k₄.1 in
    let z = eqb-true a.size b.size k₃.1 in
    let d = eqs→eq a.described b.described k₂.1 in
    let p = beq→eq a.padding b.padding k₁.1 in
    λ i. record { name = n i; offset = o i; size = z i; described = d i; padding = p i }

pub eq_places→eq : (a b : List FieldLayout) → eq_places a b ≡ true → a ≡ b
unfolding eq_places
eq_places→eq [] [] h = refl
eq_places→eq [] (y ∷ ys) h = absurd (false≢true h)
eq_places→eq (x ∷ xs) [] h = absurd (false≢true h)
eq_places→eq (x ∷ xs) (y ∷ ys) h =
    let k = both (eq_place x y) (eq_places xs ys) h in
    ap₂ ◌∷◌ (eq_place→eq x y k.0) (eq_places→eq xs ys k.1)

-- in a list with no key twice, equal keys have one owner
pub key-only : {A : Type 0} (key : A → Str) (l : List A) → NoDup (map key l) → {x y : A} → Memᴰ x l → Memᴰ y l → key x ≡ key y → x ≡ y
key-only key [] d m n e = absurd (Memᴰ.not-nil m)
key-only key (z ∷ zs) d (Memᴰ.head p) (Memᴰ.head q) e = p ∙ sym q
key-only key (z ∷ zs) d (Memᴰ.head p) (Memᴰ.tail n) e = absurd (d.0 (Memᴰ.cast (sym (ap key p) ∙ e) (Memᴰ.map key n)))
key-only key (z ∷ zs) d (Memᴰ.tail m) (Memᴰ.head q) e = absurd (d.0 (Memᴰ.cast (sym (ap key q) ∙ sym e) (Memᴰ.map key m)))
key-only key (z ∷ zs) d (Memᴰ.tail m) (Memᴰ.tail n) e = key-only key zs d.1 m n e

slot-mem : (l : List Struct) {x : Struct} {a : Str} → Memᴰ x l → x.slot ≡ Some a → Memᴰ a (slots_of l)
unfolding slots_of with_some
slot-mem [] m e = absurd (Memᴰ.not-nil m)
slot-mem (z ∷ zs) (Memᴰ.head p) e = rw (sym (ap (λ (t : Struct). t.slot) p) ∙ e) (Memᴰ.head refl)
slot-mem (z ∷ zs) {x} {a} (Memᴰ.tail m) e = go z.slot (slot-mem zs m e)
  where
    go : (o : Option Str) → Memᴰ a (slots_of zs) → Memᴰ a (with_some o (slots_of zs))
    go None r = r
    go (Some b) r = Memᴰ.tail r

no-dup-tail : (o : Option Str) (l : List Str) → NoDup (with_some o l) → NoDup l
unfolding with_some
no-dup-tail None l d = d
no-dup-tail (Some b) l d = d.1

no-dup-head : (o : Option Str) (l : List Str) {a : Str} → o ≡ Some a → NoDup (with_some o l) → Memᴰ a l → ⊥
unfolding with_some
no-dup-head None l e d m = let z : ◌≡◌ {A = ℕ} 0 1 = cc in omega arith
no-dup-head (Some b) l {a} e d m = let q : b ≡ a = cc in d.0 (Memᴰ.cast q m)

pub slot-only : (l : List Struct) → NoDup (slots_of l) → {x y : Struct} {a : Str} → Memᴰ x l → Memᴰ y l → x.slot ≡ Some a → y.slot ≡ Some a → x ≡ y
unfolding slots_of
slot-only [] d m n e f = absurd (Memᴰ.not-nil m)
slot-only (z ∷ zs) d (Memᴰ.head p) (Memᴰ.head q) e f = p ∙ sym q
slot-only (z ∷ zs) d (Memᴰ.head p) (Memᴰ.tail n) e f =
    absurd (no-dup-head z.slot (slots_of zs) (sym (ap (λ (t : Struct). t.slot) p) ∙ e) d (slot-mem zs n f))
slot-only (z ∷ zs) d (Memᴰ.tail m) (Memᴰ.head q) e f =
    absurd (no-dup-head z.slot (slots_of zs) (sym (ap (λ (t : Struct). t.slot) q) ∙ f) d (slot-mem zs m e))
slot-only (z ∷ zs) d (Memᴰ.tail m) (Memᴰ.tail n) e f = slot-only zs (no-dup-tail z.slot (slots_of zs) d) m n e f

owning-cons : (a : ℕ) (s : Str) → (a ≡ 58 → ⊥) → owning (a ∷ s) ≡ a ∷ owning s
unfolding owning
owning-cons a [] n = refl
owning-cons a (b ∷ s) n = rw (ne_eqb a 58 n)

pub owning-plain : (n : Str) → NoColon n → owning n ≡ n
unfolding owning
owning-plain [] c = refl
owning-plain (a ∷ s) c = owning-cons a s (λ e. c (Memᴰ.head (sym e))) ∙ ap (λ (t : Str). a ∷ t) (owning-plain s (λ m. c (Memᴰ.tail m)))

pub owning-variant : (n d : Str) → NoColon n → owning (variant_name n d) ≡ n
unfolding owning variant_name
owning-variant [] d c = refl
owning-variant (a ∷ s) d c =
    owning-cons a (variant_name s d) (λ e. c (Memᴰ.head (sym e))) ∙ ap (λ (t : Str). a ∷ t) (owning-variant s d (λ m. c (Memᴰ.tail m)))
