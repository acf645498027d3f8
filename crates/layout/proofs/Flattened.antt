-- The handles of a record in flattening order have the layouts of its schema, and each is of a type's command. Assumes nothing.
use Rattle.std.specs.Prelude.{Some}
use Prim.Native.Nat.{ℕ, ◌+◌, ◌-◌, ◌*◌, ◌≤◌, ◌<◌}
use mathlib.Core.List.Memᴰ
use mathlib.Core.List.{List, [], ◌∷◌, ◌++◌, map, map-append, Memᴰ}
use mathlib.Core.Bool.{Bool, true, false}
use mathlib.Core.Logic.{◌⊎◌, inl, inr}
use mathlib.Core.Path.{◌≡◌, refl, sym, ap, ap₂, subst, ◌∙◌}
use native.Mathlib.Omega.{arith}
use lib.Dec.{eqb}
use borrow.Author.Tests.{eq-eqb, ne_eqb, eqb-true, eqb-false}
use lib.ListN.{length, get_or, drop}
use Rattle.record.specs.Base.{Str}
use Rattle.record.specs.Scalars.{Scalar}
use Rattle.record.specs.Schema.{Schema, Field, Family, Variant}
use Rattle.record.specs.Commands.{struct_at, family_at, variant_at, step_at, commands_at}
use Rattle.record.specs.Seek.{places_of}
use Rattle.record.specs.declared.seek.Between.TheVariants.{Anything}
use Rattle.record.specs.Lists.{listed, anything, a_field, struct_of, family_of, variant_of, fields, structs, variants, families}
use Rattle.record.specs.Steps.{fields_at}
use Rattle.record.specs.Shapes.{places, fam_prefix}
use Rattle.record.specs.Reading.{Rec, rec, schema_from, schema_of}
use Rattle.record.specs.declared.command.Cursor.{Cursor}
use Rattle.record.specs.declared.command.Command.{Command}
use Rattle.record.proofs.Stream.{step-found, along}
use Rattle.record.proofs.ListLaws.{byte_of, byte-is, listed-stop, listed_here, listed-over, listed_same}
use Rattle.layout.specs.Layout.{TypeLayout, variant_name, lay_struct, lay_family, lay_variant, lay_families, flattened}
use Rattle.layout.specs.Handles.{name_at, family_part, place_part, type_name, variant_handles, joined_handles, family_handles, handles_of, handle_fields, layout_of}
use Rattle.layout.specs.Table.{Typed, plain, variant}
use Rattle.layout.proofs.Along.{place-stands, listed-element}

-- the parts of a handle come back out of it -------------------------------------------------------------------------------

module _ (at : ℕ) (h : at < 65536) where
  plain-family : family_part at ≡ 0
  unfolding family_part
  plain-family = omega arith

  plain-place : place_part at ≡ at
  unfolding place_part
  plain-place = omega arith

  module _ (f : ℕ) where
    variant-family : family_part (65536 * (f + 1) + at) ≡ f + 1
    unfolding family_part
    variant-family = omega arith

    variant-place : place_part (65536 * (f + 1) + at) ≡ at
    unfolding place_part
    variant-place = omega arith

-- layouts -----------------------------------------------------------------------------------------------------------------

module _ (s p : Str) (at : ℕ) (c : Command) (k : Cursor) (e : step_at s at ≡ Some (c, k)) where
  pub own-fields : (get_or s at 0 ≡ 9 → ⊥) → handle_fields s p at ≡ fields_at s p k.at
  unfolding handle_fields
  own-fields n = let f = step-found s at c k e in rw (ne_eqb (get_or s at 0) 9 n, ← f.wide)

  pub family-fields : get_or s at 0 ≡ 9 → handle_fields s p at ≡ fam_prefix (family_of p (family_at (drop at s)) [] []) ++ fields_at s p k.at
  unfolding handle_fields
  family-fields n = let f = step-found s at c k e in rw (eq-eqb (get_or s at 0) 9 n, ← f.wide)

module _ (s p : Str) (w : List Scalar) (small : length s ≤ 32768) where
  abbrev R : Rec
  R = rec s p w

  abbrev S : Schema
  S = schema_of R

  abbrev laid : Str → List Field → TypeLayout
  laid n fs = record { name = n; fields = places S 0 fs }

  layout_is : (h : ℕ) (n : Str) (fs : List Field) → type_name s p h ≡ n → handle_fields s p (place_part h) ≡ fs → layout_of R h ≡ laid n fs
  unfolding layout_of
  layout_is h n fs e f = ap₂ laid e f

  pub plain-name : (at : ℕ) → at < 65536 → type_name s p at ≡ name_at s p at
  unfolding type_name
  plain-name at h = rw (plain-family at h, plain-place at h)

  variant-name : (f at : ℕ) → at < 65536 → type_name s p (65536 * (f + 1) + at) ≡ variant_name (name_at s p f) (name_at s p at)
  unfolding type_name
  variant-name f at h =
      let n : f + 1 ≡ 0 → ⊥ = λ q. omega arith in
      let m : f + 1 - 1 ≡ f = omega arith in
      rw (variant-family at h f, variant-place at h f, ne_eqb (f + 1) 0 n, m)

  module _ (at : ℕ) (c : Command) (k : Cursor) (e : step_at s at ≡ Some (c, k)) where
    inside : at < 65536
    inside = let f = step-found s at c k e in let a = f.on in let b = f.within in omega arith

    abbrev own : List Field
    own = fields s p (commands_at s k.at)

    laid-struct : get_or s at 0 ≡ 8 → layout_of R at ≡ lay_struct S (struct_of p (struct_at (drop at s)) own)
    unfolding lay_struct name_at fields_at
    laid-struct b = layout_is at (name_at s p at) own (plain-name at inside) (rw (plain-place at inside) (own-fields s p at c k e (λ q. omega arith)))

    laid-family : get_or s at 0 ≡ 9 → (vs : List Variant) → layout_of R at ≡ lay_family S (family_of p (family_at (drop at s)) own vs)
    unfolding lay_family name_at fam_prefix fields_at
    laid-family b vs =
        layout_is at (name_at s p at) (fam_prefix (family_of p (family_at (drop at s)) [] []) ++ own) (plain-name at inside) (rw (plain-place at inside) (family-fields s p at c k e b))

    laid-variant : (f : ℕ) (m : Family) → m.name ≡ name_at s p f → get_or s at 0 ≡ 10 → layout_of R (65536 * (f + 1) + at) ≡ lay_variant S m (variant_of p (variant_at (drop at s)) own)
    unfolding lay_variant name_at fields_at
    laid-variant f m n b =
        layout_is (65536 * (f + 1) + at) (variant_name m.name (name_at s p at)) own (variant-name f at inside ∙ ap (λ (x : Str). variant_name x (name_at s p at)) (sym n))
        (rw (variant-place at inside f) (own-fields s p at c k e (λ q. omega arith)))

  laid-structs : (at : ℕ) → map (layout_of R) (places_of s Anything 8 at) ≡ map (lay_struct S) (structs s p (commands_at s at))
  unfolding places_of structs
  laid-structs = listed_same s anything 8 (λ a rest. a) (λ a rest. struct_of p (struct_at (drop a s)) (fields s p rest)) (layout_of R) (lay_struct S) laid-struct

  laid-variants : (f : ℕ) (m : Family) → m.name ≡ name_at s p f → (at : ℕ) → map (layout_of R) (variant_handles s f (commands_at s at)) ≡ map (lay_variant S m) (variants s p (commands_at s at))
  unfolding variant_handles variants
  laid-variants f m n =
      listed_same s a_field 10 (λ a rest. 65536 * (f + 1) + a) (λ a rest. variant_of p (variant_at (drop a s)) (fields s p rest)) (layout_of R) (lay_variant S m)
      (λ at c k e b. laid-variant at c k e f m n b)

  laid-families : (at : ℕ) → map (layout_of R) (family_handles s (commands_at s at)) ≡ lay_families S (families s p (commands_at s at))
  unfolding family_handles joined_handles families lay_families name_at
  laid-families =
      along s (λ (at : ℕ). map (layout_of R) (family_handles s (commands_at s at)) ≡ lay_families S (families s p (commands_at s at)))
      (λ at e. rw (listed-stop s anything 9 mine at e, listed-stop s anything 9 theirs at e)) (λ at c k e ih. go at c k e ih (eqb (byte_of c) 9) refl)
    where
      mine : ℕ → List ℕ → List ℕ
      mine a rest = a ∷ variant_handles s a rest

      theirs : ℕ → List ℕ → Family
      theirs a rest = family_of p (family_at (drop a s)) (fields s p rest) (variants s p rest)

      go : (at : ℕ) (c : Command) (k : Cursor) → step_at s at ≡ Some (c, k)
          → map (layout_of R) (family_handles s (commands_at s k.at)) ≡ lay_families S (families s p (commands_at s k.at))
          → (t : Bool) → eqb (byte_of c) 9 ≡ t → map (layout_of R) (family_handles s (commands_at s at)) ≡ lay_families S (families s p (commands_at s at))
      go at c k e ih true q =
          let h = eqb-true (byte_of c) 9 q in
          let rest = commands_at s k.at in
          let m = theirs at rest in
          rw (listed_here s anything 9 mine at c k e h, listed_here s anything 9 theirs at c k e h, map-append (layout_of R) (variant_handles s at rest) (family_handles s rest))
          (ap₂ (λ (x : TypeLayout) (l : List TypeLayout). x ∷ l) (laid-family at c k e (byte-is s at c k e ∙ h) (variants s p rest))
          (ap₂ (λ (l : List TypeLayout) (n : List TypeLayout). l ++ n) (laid-variants at m refl k.at) ih))
      go at c k e ih false q =
          let h = eqb-false (byte_of c) 9 q in
          rw (listed-over s anything 9 mine at c k e h refl, listed-over s anything 9 theirs at c k e h refl) ih

  -- 01's layouts in flattening order, by their handles
  pub handles-laid : map (layout_of R) (handles_of s) ≡ flattened S
  unfolding handles_of flattened schema_of schema_from
  handles-laid =
      map-append (layout_of R) (places_of s Anything 8 0) (family_handles s (commands_at s 0))
      ∙ ap₂ (λ (l : List TypeLayout) (n : List TypeLayout). l ++ n) (laid-structs 0) (laid-families 0)

-- where handles come from -------------------------------------------------------------------------------------------------

joined-mem : (ls : List (List ℕ)) {u : ℕ} → Memᴰ u (joined_handles ls) → (l : List ℕ) × Memᴰ l ls × Memᴰ u l
unfolding joined_handles
joined-mem [] m = absurd (Memᴰ.not-nil m)
joined-mem (l ∷ ls) {u} m = go (joined-mem ls) (Memᴰ.append_cases l m)
  where
    go : (Memᴰ u (joined_handles ls) → (l : List ℕ) × Memᴰ l ls × Memᴰ u l) → Memᴰ u l ⊎ Memᴰ u (joined_handles ls)
        → (x : List ℕ) × Memᴰ x (l ∷ ls) × Memᴰ u x
    go r (inl n) = (l, Memᴰ.head refl, n)
    go r (inr n) = let x = r n in (x.0, Memᴰ.tail x.1, x.2)

module _ (s : Str) (small : length s ≤ 32768) where
  pub below : (at : ℕ) → Memᴰ at (commands_at s 0) → at < 65536
  below at m =
      let st = place-stands s 0 at m in
      let f = step-found s at st.command st.after st.step in
      let a = f.on in
      let b = f.within in
      omega arith

  typed-plain : (at : ℕ) → Memᴰ at (commands_at s 0) → (get_or s at 0 ≡ 8) ⊎ (get_or s at 0 ≡ 9) → Typed s at
  typed-plain at m b =
      let q : place_part at ≡ at = plain-place at (below at m) in
      plain (plain-family at (below at m)) (rw q m) (rw q b)

  typed-variant : (f at : ℕ) → Memᴰ f (commands_at s 0) → get_or s f 0 ≡ 9 → Memᴰ at (commands_at s 0) → get_or s at 0 ≡ 10 → Typed s (65536 * (f + 1) + at)
  typed-variant f at n g m b =
      let q : place_part (65536 * (f + 1) + at) ≡ at = variant-place at (below at m) f in
      variant f (variant-family at (below at m) f) n g (rw q m) (rw q b)

  pub handles-typed : (h : ℕ) → Memᴰ h (handles_of s) → Typed s h
  unfolding handles_of places_of family_handles variant_handles
  handles-typed h m = go (Memᴰ.append_cases (places_of s Anything 8 0) m)
    where
      of-family : (f after : ℕ) → Memᴰ f (commands_at s 0) → get_or s f 0 ≡ 9 → ((v : ℕ) → Memᴰ v (commands_at s after) → Memᴰ v (commands_at s 0))
          → Memᴰ h (f ∷ variant_handles s f (commands_at s after)) → Typed s h
      of-family f after n g later (Memᴰ.head q) = subst (λ (x : ℕ). Typed s x) (sym q) (typed-plain f n (inr g))
      of-family f after n g later (Memᴰ.tail l) =
          let x = listed-element s a_field 10 (λ a rest. 65536 * (f + 1) + a) h after l in
          subst (λ (y : ℕ). Typed s y) (sym x.is) (typed-variant f x.where-from n g (later x.where-from x.in-stream) x.number)

      go : Memᴰ h (places_of s Anything 8 0) ⊎ Memᴰ h (family_handles s (commands_at s 0)) → Typed s h
      go (inl n) =
          let x = listed-element s anything 8 (λ a rest. a) h 0 n in
          subst (λ (y : ℕ). Typed s y) (sym x.is) (typed-plain x.where-from x.in-stream (inl x.number))
      go (inr n) =
          let l = joined-mem (listed s anything 9 (λ a rest. a ∷ variant_handles s a rest) (commands_at s 0)) n in
          let x = listed-element s anything 9 (λ a rest. a ∷ variant_handles s a rest) l.0 0 l.1 in
          of-family x.where-from x.after x.in-stream x.number x.later (rw x.is at l.2)
