-- What each way out of the check of pointers says. Assumes nothing.
use Rattle.std.specs.Prelude.{Option, Some, None, Result, Ok, Err, ⊤}
use mathlib.Core.Path.{◌≡◌, refl, sym, ap, ◌∙◌}
use mathlib.Core.List.{List, []}
use mathlib.Core.Bool.{Bool, true, false}
use Prim.Native.Nat.{ℕ, ◌≤◌}
use lib.ListN.{length, drop}
use Rattle.record.specs.Base.{Str, is_some}
use Rattle.record.specs.Stretch.{text_of}
use Rattle.record.specs.Operands.{text_at}
use Rattle.record.specs.Scalars.{scalars_of, built_in, built_in_rows}
use Rattle.record.specs.Commands.{field_at}
use Rattle.record.specs.Lists.{opt_of}
use Rattle.record.specs.Steps.{structs_at, families_at}
use Rattle.record.specs.Kind.{kind_of}
use Rattle.record.specs.Index.{Indexed, IndexRoom, Declared, struct_placed, family_placed}
use Rattle.record.specs.Seek.{places_left, SoughtFrom}
use Rattle.record.specs.Owner.{Types, referenced}
use Rattle.record.specs.References.{Refers, types_at}
use Rattle.record.specs.Reading.{rec, schema_from, schema_of}
use Rattle.record.specs.Read.{Read}
use Rattle.record.specs.declared.text.Text.{Text}
use Rattle.record.specs.declared.kind.Kind.{Kind}
use Rattle.record.specs.declared.seek.Between.TheVariants.{Anything}
use Rattle.record.specs.declared.refusal.Refusal.{Refusal}
use Rattle.record.specs.declared.refusal.Side.TheVariants.{Current}
use Rattle.layout.specs.Answer.{refusal_of, Answered}
use Rattle.layout.specs.declared.answer.Answer as D
use Rattle.layout.proofs.Readable.{reading-refused, reading-read}
use Rattle.pointers.specs.Pointers.{pointee_of, name_fault, is_struct, is_family, pointee_fault, field_fault, field_here, accepted, or_next, first_fault, pointers_read, pointers, fault_from, Answers}
use Rattle.pointers.specs.declared.rule.Pointee.{Pointee}
use Rattle.pointers.specs.declared.rule.Pointee.TheVariants.{ToStruct, ToFamily, Unjudged}

-- the look-ups ------------------------------------------------------------------------------------------------------------

module _ (s p : Str) (x : List ℕ) (n : Str) (r : Option (ℕ × ℕ)) (i : Indexed s p x) where
  pub struct-none : Declared s p x 8 n r → r ≡ None → false ≡ is_struct (types_at s p) n
  unfolding is_struct is_some
  struct-none d m = sym (ap is_some ((d.named i).struct refl ∙ ap (struct_placed s p) m))

  pub struct-some : Declared s p x 8 n r → (a k : ℕ) → r ≡ Some (a, k) → true ≡ is_struct (types_at s p) n
  unfolding is_struct is_some
  struct-some d a k m = sym (ap is_some ((d.named i).struct refl ∙ ap (struct_placed s p) m))

  pub family-none : Declared s p x 9 n r → r ≡ None → false ≡ is_family (types_at s p) n
  unfolding is_family is_some
  family-none d m = sym (ap is_some ((d.named i).family refl ∙ ap (family_placed s p) m))

  pub family-some : Declared s p x 9 n r → (a k : ℕ) → r ≡ Some (a, k) → true ≡ is_family (types_at s p) n
  unfolding is_family is_some
  family-some d a k m = sym (ap is_some ((d.named i).family refl ∙ ap (family_placed s p) m))

pub ruleset is-struct-laws = (struct-none, struct-some)

pub ruleset is-family-laws = (family-none, family-some)

-- one name ----------------------------------------------------------------------------------------------------------------

-- by what the two look-ups answer
module _ (x z b d : Bool) (f : b ≡ x) where
  right : b ≡ true → None ≡ name_fault x z
  unfolding name_fault
  right h = rw (← f, h)

  other : b ≡ false → d ≡ z → d ≡ true → Some 60 ≡ name_fault x z
  unfolding name_fault
  other h g k = rw (← f, h, ← g, k)

  neither : b ≡ false → d ≡ z → d ≡ false → Some 59 ≡ name_fault x z
  unfolding name_fault
  neither h g k = rw (← f, h, ← g, k)

module _ (p : Str) (u : Types) (o : Option Text) where
  pub struct-absent : o ≡ None → Some 59 ≡ pointee_fault u ToStruct (opt_of p o)
  unfolding pointee_fault
  struct-absent e = rw e

  pub family-absent : o ≡ None → Some 59 ≡ pointee_fault u ToFamily (opt_of p o)
  unfolding pointee_fault
  family-absent e = rw e

  module _ (t : Text) (n : Str) (e : o ≡ Some t) (w : n ≡ text_of p t) (b : Bool) where
    as_struct : name_fault (is_struct u n) (is_family u n) ≡ pointee_fault u ToStruct (opt_of p o)
    unfolding pointee_fault
    as_struct = rw (e, w)

    as-family : name_fault (is_family u n) (is_struct u n) ≡ pointee_fault u ToFamily (opt_of p o)
    unfolding pointee_fault
    as-family = rw (e, w)

    pub struct-right : b ≡ is_struct u n → b ≡ true → None ≡ pointee_fault u ToStruct (opt_of p o)
    struct-right f h = right (is_struct u n) (is_family u n) b true f h ∙ as_struct

    pub family-right : b ≡ is_family u n → b ≡ true → None ≡ pointee_fault u ToFamily (opt_of p o)
    family-right f h = right (is_family u n) (is_struct u n) b true f h ∙ as-family

    module _ (d : Bool) where
      pub struct-other : b ≡ is_struct u n → b ≡ false → d ≡ is_family u n → d ≡ true → Some 60 ≡ pointee_fault u ToStruct (opt_of p o)
      struct-other f h g k = other (is_struct u n) (is_family u n) b d f h g k ∙ as_struct

      pub struct-nothing : b ≡ is_struct u n → b ≡ false → d ≡ is_family u n → d ≡ false → Some 59 ≡ pointee_fault u ToStruct (opt_of p o)
      struct-nothing f h g k = neither (is_struct u n) (is_family u n) b d f h g k ∙ as_struct

      pub family-other : b ≡ is_family u n → b ≡ false → d ≡ is_struct u n → d ≡ true → Some 60 ≡ pointee_fault u ToFamily (opt_of p o)
      family-other f h g k = other (is_family u n) (is_struct u n) b d f h g k ∙ as-family

      pub family-nothing : b ≡ is_family u n → b ≡ false → d ≡ is_struct u n → d ≡ false → Some 59 ≡ pointee_fault u ToFamily (opt_of p o)
      family-nothing f h g k = neither (is_family u n) (is_struct u n) b d f h g k ∙ as-family

-- one field ---------------------------------------------------------------------------------------------------------------

module _ (s p : Str) (u : Types) (at : ℕ) (y : Str) (t : Text) (w : Str) (k : Kind) (a : Pointee)
    (d : y ≡ drop at s) (e : t ≡ text_at y 4) (f : w ≡ text_of p t) (g : k ≡ kind_of w) (h : a ≡ pointee_of k) where
  by-pointee : (b : Pointee) → a ≡ b → field_fault u (field_here s p at) ≡ pointee_fault u b (referenced (field_here s p at))
  unfolding field_fault
  by-pointee b m =
      let word : w ≡ (field_here s p at).kind = f ∙ ap (text_of p) (e ∙ ap (λ (z : Str). text_at z 4) d) in
      ap (λ (z : Pointee). pointee_fault u z (referenced (field_here s p at))) (sym (sym m ∙ h ∙ ap pointee_of (g ∙ ap kind_of word)))

  pub field-unjudged : a ≡ Unjudged → None ≡ field_fault u (field_here s p at)
  unfolding pointee_fault
  field-unjudged m = sym (by-pointee Unjudged m)

  module _ (o : Option Text) (v : Option ℕ) (n : Refers p (field_at y) o) where
    refers : opt_of p o ≡ referenced (field_here s p at)
    refers = n.name None ∙ ap (λ (z : Str). referenced (field_here z p 0)) d

    pub field-struct : a ≡ ToStruct → v ≡ pointee_fault u ToStruct (opt_of p o) → v ≡ field_fault u (field_here s p at)
    field-struct m q = q ∙ ap (pointee_fault u ToStruct) refers ∙ sym (by-pointee ToStruct m)

    pub field-family : a ≡ ToFamily → v ≡ pointee_fault u ToFamily (opt_of p o) → v ≡ field_fault u (field_here s p at)
    field-family m q = q ∙ ap (pointee_fault u ToFamily) refers ∙ sym (by-pointee ToFamily m)

pub ruleset field-fault-laws = (field-unjudged, field-struct, field-family)

-- the loop ----------------------------------------------------------------------------------------------------------------

module _ (s p : Str) (at : ℕ) (r : Option (ℕ × ℕ)) (i : SoughtFrom s Anything 11 at r) where
  pub faults-end : fault_from s p 0 ≡ fault_from s p at → r ≡ None → Answers (fault_from s p 0) (record { number = 0; side = 0; place = 0; len = 0 })
  unfolding fault_from first_fault
  faults-end k m =
      let g : fault_from s p 0 ≡ accepted = k ∙ ap (first_fault (types_at s p) s p) (i.list ∙ ap (places_left s Anything 11) m) in
      rw g (record { number = refl; side = refl; place = refl; len = refl; no_text = refl })

  module _ (q j : ℕ) (m : r ≡ Some (q, j)) (v : Option ℕ) (f : v ≡ field_fault (types_at s p) (field_here s p q)) where
    step : fault_from s p at ≡ or_next q v (fault_from s p j)
    unfolding fault_from first_fault
    step =
        ap (first_fault (types_at s p) s p) (i.list ∙ ap (places_left s Anything 11) m)
        ∙ ap (λ (o : Option ℕ). or_next q o (fault_from s p j)) (sym f)

    pub faults-on : fault_from s p 0 ≡ fault_from s p at → v ≡ None → fault_from s p 0 ≡ fault_from s p j
    unfolding or_next
    faults-on k e = k ∙ step ∙ ap (λ (z : Option ℕ). or_next q z (fault_from s p j)) e

    pub faults-stop : fault_from s p 0 ≡ fault_from s p at → (n : ℕ) → v ≡ Some n
        → Answers (fault_from s p 0) (record { number = n; side = 0; place = q; len = 0 })
    unfolding or_next
    faults-stop k n e =
        let g : fault_from s p 0 ≡ record { number = n; side = 0; place = q; len = 0; text = [] } =
        k ∙ step ∙ ap (λ (z : Option ℕ). or_next q z (fault_from s p j)) e
        in
        rw g (record { number = refl; side = refl; place = refl; len = refl; no_text = refl })

-- the index is the record's once it is filled
pub filled : (s p : Str) (room x : List ℕ) → length s ≤ 32768 → IndexRoom s room → (length s ≤ 32768 → IndexRoom s room → Indexed s p x)
    → Indexed s p x
filled s p room x h i f = f h i

-- the call ----------------------------------------------------------------------------------------------------------------

module _ (s p rows : Str) (o : Result ⊤ (Refusal × ℕ)) (e : rows ≡ built_in_rows) (h : Read Current (rec s p (scalars_of rows)) o) (a : D.Answer) where
  pub pointers-refused : (x : Refusal) (at : ℕ) → o ≡ Err (x, at) → ((out : Str) → Answered out out (refusal_of Current x at) a)
      → Answers (pointers (rec s p built_in)) a
  unfolding pointers pointers_read refusal_of
  pointers-refused x at k f =
      let g = f [] in
      rw (reading-refused Current s p rows o e h x at k)
      (record { number = g.number; side = g.side; place = g.place; len = g.len; no_text = refl })

  pub pointers-read : o ≡ Ok tt → Answers (fault_from s p 0) a → Answers (pointers (rec s p built_in)) a
  unfolding pointers pointers_read fault_from schema_of schema_from structs_at families_at
  pointers-read k f = rw (reading-read Current s p rows o e h k) f
