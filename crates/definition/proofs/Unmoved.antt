-- One step: generation numbers, and the types under one that did not move. Assumes nothing.
use Rattle.std.specs.Prelude.{Option, Some, None}
use mathlib.Core.Path.{◌≡◌, refl, sym, ◌∙◌, ap, subst}
use mathlib.Core.List.{List, [], ◌∷◌, Memᴰ}
use mathlib.Core.Bool.{Bool, true, false, ◌&&◌, not, cond, false≢true}
use Prim.Native.Nat.{ℕ, ◌+◌, ◌^◌, ◌≤◌}
use native.Mathlib.Omega.{arith}
use lib.Dec.{eqb, ltb}
use borrow.Author.Tests.{eqb-false, ltb-false}
use Rattle.record.specs.Base.{Str, eqs, is_text, map_option}
use Rattle.record.specs.Schema.{Schema, integer, Struct, Family, Variant, Version}
use Rattle.record.specs.Steps.{struct_in}
use Rattle.record.specs.Shapes.{FieldLayout}
use Rattle.record.specs.Owner.{types_in, struct_in_slot, with_name, roots_in, owner_of}
use Rattle.record.proofs.Basics.{both, eqs→eq, eqs-refl, find-some, find-any, find-only, any_some, filter-mem}
use Rattle.layout.specs.Layout.{TypeLayout, types, type_in, variant_name, lay_struct, lay_family, lay_variant}
use Rattle.layout.proofs.Origin.{From, of-struct, of-family, of-variant, from-types}
use Rattle.definition.specs.Verdicts.{pass, type_gone, shipped_family_changed, no_constant, no_generation, unraised, unlisted, leapt, fell}
use Rattle.definition.specs.Pass.{ensure}
use Rattle.record.specs.Versioned.{slot_order, versioned}
use Rattle.record.specs.Generation.{Held, as_generation, of_constant, of_version, of_struct, generation_of}
use Rattle.definition.specs.Fields.{check_type, check_fields, same_as, changed}
use Rattle.definition.specs.Standalone.{variant_names, layouts_of, check_same, check_shipped, check_shipped_all, check_family, check_standalone}
use Rattle.definition.specs.Coverage.{owning, stands_alone, under, first_under}
use Rattle.definition.specs.Generations.{is_listed, check_still, check_rise, check_from, check_against, check_generation, check_roots, check_generations}
use Rattle.definition.specs.Chain.{Names, Carries, Holds, Laid}
use Rattle.definition.proofs.Passes.{stop≢pass, then-pass, ensured, ensure-false, each-pass, found-stop, on_some, none_found}
use Rattle.definition.proofs.Same.{eq_places→eq, key-only, slot-only, owning-plain, owning-variant}

pub is_text→eq : (o : Option Str) (s : Str) → is_text o s ≡ true → o ≡ Some s
unfolding is_text
is_text→eq None s h = absurd (false≢true h)
is_text→eq (Some t) s h = ap Some (eqs→eq t s h)

eq→is_text : (o : Option Str) (s : Str) → o ≡ Some s → is_text o s ≡ true
unfolding is_text
eq→is_text o s e = rw e (eqs-refl s)

-- the structure of a slot is found in it, and under its name
module _ (s : Schema) (names : Names s) {root k : Str} (c : Carries s.structs root k) where
  in-slot : struct_in_slot c.slot s.structs ≡ Some c.struct
  unfolding struct_in_slot
  in-slot =
      find-only (λ (t : Struct). is_text t.slot c.slot) s.structs c.is-struct (eq→is_text _ _ c.in-slot)
      (λ y m h. slot-only s.structs names.slots-once m c.is-struct (is_text→eq _ _ h) c.in-slot)

  by_name : struct_in root s.structs ≡ Some c.struct
  unfolding struct_in
  by_name =
      find-only (λ (t : Struct). eqs t.name root) s.structs c.is-struct (rw c.struct-name (eqs-refl root))
      (λ y m h. key-only (λ (t : Struct). t.name) s.structs names.structs-once m c.is-struct (eqs→eq _ _ h ∙ sym c.struct-name))

roots-mem : (ss : List Struct) (slots : List Str) {slot : Str} {t : Struct} → Memᴰ slot slots → struct_in_slot slot ss ≡ Some t → Memᴰ t.name (roots_in ss slots)
unfolding roots_in with_name
roots-mem ss [] m e = absurd (mathlib.Core.List.Memᴰ.not-nil m)
roots-mem ss (x ∷ xs) (mathlib.Core.List.Memᴰ.head p) e = rw (ap (λ (a : Str). struct_in_slot a ss) (sym p) ∙ e) (mathlib.Core.List.Memᴰ.head refl)
roots-mem ss (x ∷ xs) {slot} {t} (mathlib.Core.List.Memᴰ.tail m) e = go (struct_in_slot x ss) (roots-mem ss xs m e)
  where
    go : (o : Option Struct) → Memᴰ t.name (roots_in ss xs) → Memᴰ t.name (with_name o (roots_in ss xs))
    go None r = r
    go (Some u) r = mathlib.Core.List.Memᴰ.tail r

as-generation : (k : Str) (n : ℕ) {g : Held} → as_generation k (integer n) ≡ Some g → (g.constant ≡ k) × (g.number ≡ n)
unfolding as_generation
as-generation k n {g} h = go (ltb n (2 ^ 32)) h
  where
    go : (b : Bool) → cond b (Some (record { constant = k; number = n })) None ≡ Some g → (g.constant ≡ k) × (g.number ≡ n)
    go true e =
        let q : ◌≡◌ {A = Held} (record { constant = k; number = n }) g = cc in
        (ap (λ (x : Held). x.constant) (sym q), ap (λ (x : Held). x.number) (sym q))
    go false e = absurd (let z : ◌≡◌ {A = ℕ} 0 1 = cc in omega arith)

generation-is : (s : Schema) → Names s → {root k : Str} → Carries s.structs root k → {n : ℕ} → Holds s.constants k n → {g : Held}
    → generation_of s.structs s.constants root ≡ Some g → (g.constant ≡ k) × (g.number ≡ n)
unfolding generation_of of_struct of_version of_constant
generation-is s names {root} {k} c {n} h {g} e =
    as-generation k n (rw (by_name s names c, c.names, h.is_found, h.is-integer) at e)

-- what the pass on one root says of two numbers
pub record Rise (touched : Option Str) (was is : ℕ) : Type 0 where
  pub up : was ≤ is
  pub still : is ≡ was → touched ≡ None

rise-of : (now : Str) (copy : Option Str) (vs : List Version) (touched : Option Str) (root k : Str) (was is : ℕ)
    → check_rise now copy vs touched root k was is ≡ pass → Rise touched was is
unfolding check_rise check_still unraised unlisted leapt fell
rise-of now copy vs touched root k was is h = go (ltb is was) (eqb is was) refl refl h
  where
    go : (a b : Bool) → ltb is was ≡ a → eqb is was ≡ b
        → cond a (fell k was is) (cond b (check_still touched root k was)
        (cond (eqb is (was + 1)) (ensure (is_listed root is vs) (unlisted k is root)) (leapt k was is copy now))) ≡ pass
        → Rise touched was is
    go true b p q g = absurd (stop≢pass g)
    go false true p q g = record { up = ltb-false is was p; still = λ e. none_found touched _ _ g }
    go false false p q g = record { up = ltb-false is was p; still = λ e. absurd (eqb-false is was q e) }

pub rise : (now : Str) (copy : Option Str) (cur rel : Schema) (moved : List TypeLayout) → Names cur → {root k : Str} → Carries cur.structs root k
    → {was is : ℕ} → Holds rel.constants k was → Holds cur.constants k is
    → check_generations now copy cur.versions (types_in cur) cur.constants rel.constants moved ≡ pass → Rise (first_under (types_in cur) moved root) was is
unfolding check_generations check_roots check_generation check_against check_from versioned no_constant no_generation
rise now copy cur rel moved names {root} {k} c {was} {is} hw hi h =
    let all = (then-pass _ _ h).1 in
    let mem : Memᴰ root (versioned cur.structs) = mathlib.Core.List.Memᴰ.cast (sym c.struct-name) (roots-mem cur.structs slot_order c.is-slot (in-slot cur names c)) in
    let at-root = each-pass (check_generation now copy cur.versions cur.structs cur.constants rel.constants (first_under (types_in cur) moved)) (versioned cur.structs) all mem in
    let g = found-stop (generation_of cur.structs cur.constants root) _ _ _ at-root in
    let same = generation-is cur names c hi g.1 in
    let at-number : check_from now copy cur.versions (first_under (types_in cur) moved root) root k g.0.number (integer was) ≡ pass =
    rw (same.0, hw.is_found, hw.is-integer) at g.2 in
    let at-rise = (then-pass _ _ at-number).1 in
    subst (λ (n : ℕ). Rise (first_under (types_in cur) moved root) was n) same.1 (rise-of now copy cur.versions _ root _ was g.0.number at-rise)

-- a type that a family standing alone governs is among its layouts
ships : (s : Schema) → Names s → {t : TypeLayout} → Memᴰ t (types s) → (m : Family) → Memᴰ m s.families
    → m.name ≡ owning t.name → Memᴰ t.name (layouts_of m)
unfolding layouts_of variant_names lay_struct lay_family lay_variant
ships s names {t} i m j e = go (from-types s i)
  where
    plain : {n : Str} → t.name ≡ n → (Memᴰ 58 n → ⊥) → Memᴰ t.name (layouts_of m)
    plain {n} q c = mathlib.Core.List.Memᴰ.head (q ∙ sym (owning-plain n c) ∙ ap owning (sym q) ∙ sym e)

    go : From s t → Memᴰ t.name (layouts_of m)
    go (of-struct x k q) = plain (ap (λ (u : TypeLayout). u.name) q) (names.struct-colons x k)
    go (of-family x k q) = plain (ap (λ (u : TypeLayout). u.name) q) (names.family-colons x k)
    go (of-variant x k v l q) =
        let n : t.name ≡ variant_name x.name v.disc = ap (λ (u : TypeLayout). u.name) q in
        let p : x.name ≡ m.name = sym (owning-variant x.name v.disc (names.family-colons x k)) ∙ ap owning (sym n) ∙ sym e in
        let xm : x ≡ m = key-only (λ (f : Family). f.name) s.families names.families-once k j p in
        let l' : Memᴰ v m.variants = subst (λ (f : Family). Memᴰ v f.variants) xm l in
        mathlib.Core.List.Memᴰ.tail (mathlib.Core.List.Memᴰ.cast (n ∙ ap (λ (b : Str). variant_name b v.disc) p) (mathlib.Core.List.Memᴰ.map (λ (w : Variant). variant_name m.name w.disc) l'))

module _ (cur rel : Schema) (names : Names cur) (root : Str)
    (hs : check_standalone cur.families rel.families (types cur) (types rel) ≡ pass)
    (hg : first_under (types_in cur) (changed (types cur) (types rel)) root ≡ None) where
  -- a family standing alone
  alone : (w i : TypeLayout) → Memᴰ i (types cur) → type_in i.name (types rel) ≡ Some w → type_in i.name (types cur) ≡ Some i
      → stands_alone cur.families (owning i.name) ≡ true → i.fields ≡ w.fields
  unfolding check_standalone check_family check_shipped_all check_shipped check_same stands_alone shipped_family_changed
  alone w i m ew ei h =
      let f = any_some (λ (t : Family). t.standalone && eqs t.name (owning i.name)) cur.families h in
      let tests = both f.0.standalone (eqs f.0.name (owning i.name)) f.2 in
      let at-family = (then-pass _ _ (each-pass (check_family rel.families (types cur) (types rel)) cur.families hs f.1)).1 in
      let at-shipped = ensure-false (not f.0.standalone) _ (ap not tests.0) at-family in
      let mem = ships cur names m f.0 f.1 (eqs→eq _ _ tests.1) in
      let at_name = each-pass (check_shipped (types cur) (types rel)) (layouts_of f.0) at-shipped mem in
      let at-now = on_some (type_in i.name (types rel)) _ _ ew at_name in
      let at_both = on_some (type_in i.name (types cur)) _ _ ei at-now in
      eq_places→eq _ _ (ensured _ _ _ at_both)

  same-fields : (w i : TypeLayout) → Memᴰ i (types cur) → type_in i.name (types rel) ≡ Some w → type_in i.name (types cur) ≡ Some i
      → owner_of (types_in cur) (owning i.name) ≡ Some root → i.fields ≡ w.fields
  unfolding changed same_as under first_under map_option
  same-fields w i m ew ei owned = go (same_as (type_in i.name (types rel)) i) refl
    where
      touched : same_as (type_in i.name (types rel)) i ≡ false → stands_alone cur.families (owning i.name) ≡ false → ⊥
      touched e f =
          let found = find-any (under (types_in cur) root) _
          (filter-mem (λ (t : TypeLayout). not (same_as (type_in t.name (types rel)) t)) (types cur) m (ap not e))
          (rw f (eq→is_text _ _ owned)) in
          let gone : None ≡ Some found.0.name = sym hg ∙ ap (map_option (λ (t : TypeLayout). t.name)) found.1 in
          let z : ◌≡◌ {A = ℕ} 0 1 = cc in omega arith

      moved : same_as (type_in i.name (types rel)) i ≡ false → (b : Bool) → stands_alone cur.families (owning i.name) ≡ b → i.fields ≡ w.fields
      moved e true f = alone w i m ew ei f
      moved e false f = absurd (touched e f)

      go : (b : Bool) → same_as (type_in i.name (types rel)) i ≡ b → i.fields ≡ w.fields
      go true e = sym (eq_places→eq _ _ (rw ew at e))
      go false e = moved e (stands_alone cur.families (owning i.name)) refl

-- no step of the number: the type stands as it stood
pub unmoved : (cur rel : Schema) → Names cur → (root : Str) {type : Str} {fs : List FieldLayout}
    → check_fields (types cur) (types rel) ≡ pass
    → check_standalone cur.families rel.families (types cur) (types rel) ≡ pass
    → first_under (types_in cur) (changed (types cur) (types rel)) root ≡ None
    → owner_of (types_in cur) (owning type) ≡ Some root
    → Laid (types rel) type fs → Laid (types cur) type fs
unfolding check_fields check_type type_in type_gone
unmoved cur rel names root {type} {fs} hf hs hg owned l =
    let in-rel = find-some (λ (x : TypeLayout). eqs x.name type) (types rel) l.is_found in
    let rel-name : l.found.name ≡ type = eqs→eq _ _ in-rel.1 in
    let at-type = each-pass (check_type (types cur)) (types rel) hf in-rel.0 in
    let is = found-stop (type_in l.found.name (types cur)) _ _ _ at-type in
    let in-cur = find-some (λ (x : TypeLayout). eqs x.name l.found.name) (types cur) is.1 in
    let cur-name : is.0.name ≡ type = eqs→eq _ _ in-cur.1 ∙ rel-name in
    let is_found : type_in type (types cur) ≡ Some is.0 = subst (λ (n : Str). type_in n (types cur) ≡ Some is.0) rel-name is.1 in
    record {
      found = is.0;
      is_found = is_found;
      is-fields =
          same-fields cur rel names root hs hg l.found is.0 in-cur.0
          (subst (λ (n : Str). type_in n (types rel) ≡ Some l.found) (sym cur-name) l.is_found)
          (subst (λ (n : Str). type_in n (types cur) ≡ Some is.0) (sym cur-name) is_found)
          (subst (λ (n : Str). owner_of (types_in cur) (owning n) ≡ Some root) (sym cur-name) owned)
          ∙ l.is-fields;
    }
