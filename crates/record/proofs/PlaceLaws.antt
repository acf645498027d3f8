-- The places of a type's fields: where they begin, a step along them, and what the field at a place leads to. Assumes nothing.
use Rattle.std.specs.Prelude.{Option, Some, None}
use mathlib.Core.Path.{◌≡◌, refl, sym, ap, subst, ◌∙◌}
use mathlib.Core.List.{List, [], ◌∷◌, ◌++◌}
use mathlib.Core.Bool.{Bool, true, false, ◌||◌, cond, false≢true}
use Prim.Native.Nat.{ℕ, zero, suc, ◌+◌, ◌-◌, ◌≤◌, ◌<◌}
use native.Mathlib.Omega.{arith}
use lib.ListN.{length, get_or, drop, get_or-eq_default}
use lib.Dec.{eqb}
use borrow.Author.Tests.{eqb-true}
use Rattle.record.specs.Base.{Str, bytes, first}
use Rattle.record.specs.Stretch.{text_of}
use Rattle.record.specs.Schema.{Field, Struct}
use Rattle.record.specs.Commands.{operands, wide, widths, width_with, width_of, place, commands_at, field_at, variant_at}
use Rattle.record.specs.Lists.{a_variant, opt_of, field_of, variant_of, listed, keys, fields, variants}
use Rattle.record.specs.Steps.{keys_at, field_key_at, fields_at, variants_at, families_at, family_in}
use Rattle.record.specs.Seek.{after_at, SoughtFrom}
use Rattle.record.specs.Owner.{Types, referenced, has_slot, variant_fields, fields_in, type_fields}
use Rattle.record.specs.Index.{first_place, sought_at, struct_placed, family_placed, Indexed, Declared}
use Rattle.record.specs.References.{types_at, Refers}
use Rattle.record.specs.Marks.{between, body_at, body_left, PlacesFrom, reference_at, entered, target_at, either_place, type_place, IsBody, Entering, LeadsToTarget}
use Rattle.record.specs.declared.text.Text.{Text}
use Rattle.record.specs.declared.command.Cursor.{Cursor}
use Rattle.record.specs.declared.seek.Between.{Between}
use Rattle.record.specs.declared.marks.Body.{Body}
use Rattle.record.proofs.CommandLaws.{step_end}
use Rattle.record.proofs.Stream.{commands-stop}
use Rattle.record.specs.Operands.{opt_text_at}
use Rattle.record.proofs.ReferenceLaws.{slot-none, slot-absent, slot-given}
use Rattle.record.proofs.IndexLaws.{first-placed, first-number}
use Rattle.record.proofs.SeekLaws.{sought-stands, sought-nearer, listed-none, listed-some}
use Rattle.record.specs.Commands.{Step}

-- where the fields begin -------------------------------------------------------------------------------------------------

-- a family's common fields and then those of its variants are its fields with the variants passed over
module _ (s p : Str) where
  one : ℕ → List ℕ → Field
  one at rest = field_of p (field_at (drop at s)) (first (keys s p rest))

  family-fields : (ps : List ℕ) → fields s p ps ++ variant_fields (variants s p ps) ≡ listed s a_variant 11 one ps
  unfolding fields variants variant_fields listed one
  family-fields [] = refl
  family-fields (at ∷ ps) = go (eqb b 11) (eqb b 12) (eqb b 10) (λ e. apart 11 e) (λ e. apart 12 e) (family-fields ps)
    where
      b : ℕ
      b = get_or s at 0

      apart : (n : ℕ) → eqb b n ≡ true → eqb b 10 ≡ eqb n 10
      apart n e = ap (λ (x : ℕ). eqb x 10) (eqb-true b n e)

      go : (f k v : Bool) → (f ≡ true → v ≡ false) → (k ≡ true → v ≡ false)
          → fields s p ps ++ variant_fields (variants s p ps) ≡ listed s a_variant 11 one ps
          → cond f (one at ps ∷ fields s p ps) (cond k (fields s p ps) [])
          ++ variant_fields (cond v (variant_of p (variant_at (drop at s)) (fields s p ps) ∷ variants s p ps) (cond (f || k) (variants s p ps) []))
          ≡ cond f (one at ps ∷ listed s a_variant 11 one ps) (cond (v || k) (listed s a_variant 11 one ps) [])
      go true k true a c h = absurd (false≢true (sym (a refl)))
      go true k false a c h = ap (λ (l : List Field). one at ps ∷ l) h
      go false true true a c h = absurd (false≢true (sym (c refl)))
      go false true false a c h = h
      go false false true a c h = h
      go false false false a c h = refl

module _ (s p : Str) (x : List ℕ) (i : Indexed s p x) (n : Str) where
  module _ (r : Option (ℕ × ℕ)) (found : Declared s p x 8 n r) where
    pub body-struct : (a k : ℕ) (c : Cursor) → r ≡ Some (a, k) → c ≡ place k → IsBody s p n (record { place = a; from = c; family = false })
    unfolding type_fields fields_in body_at fields_at fields type_place either_place
    body-struct a k c m h = record {
      stands = sym (ap (λ (y : Option (ℕ × ℕ)). either_place s y (sought_at s (first_place s p 9 n))) (sym (found.first i) ∙ m));
      fields = rw (h, (found.named i).struct refl, m);
    }

    pub body-else : (b : Body) → r ≡ None → (Indexed s p x → Declared s p x 8 n None → IsBody s p n b) → IsBody s p n b
    body-else b m h = h i (subst (Declared s p x 8 n) m found)

  module _ (found : Declared s p x 8 n None) (q : Option (ℕ × ℕ)) (found' : Declared s p x 9 n q) where
    -- no structure stands before
    family-place : (r : Option (ℕ × ℕ)) → q ≡ r → either_place s None r ≡ type_place s p n
    unfolding type_place
    family-place r g =
        sym (ap (λ (y : Option (ℕ × ℕ)). either_place s y (sought_at s (first_place s p 9 n))) (sym (found.first i)) ∙ ap (either_place s None) (sym (found'.first i) ∙ g))

    pub body-family : (a k : ℕ) (c : Cursor) → q ≡ Some (a, k) → c ≡ place k → IsBody s p n (record { place = a; from = c; family = true })
    unfolding type_fields fields_in body_at fields_at variants_at one either_place
    body-family a k c g h = record {
      stands = family-place (Some (a, k)) g;
      fields = rw (h, (found.named i).struct refl, (found'.named i).family refl, g) (family-fields s p (commands_at s k));
    }

    pub body-none : (c : Cursor) → c ≡ place (length s) → q ≡ None → IsBody s p n (record { place = length s; from = c; family = false })
    unfolding type_fields fields_in body_at listed either_place
    body-none c h g = record {
      stands = family-place None g;
      fields = rw (h, (found.named i).struct refl, (found'.named i).family refl, g, commands-stop s (length s) (sym (step_end s (length s) (omega arith))));
    }

pub ruleset body-laws = (body-struct, body-else)

pub ruleset family-laws = (body-family, body-none)

-- the command of a type ------------------------------------------------------------------------------------------------

module _ (s p : Str) where
  -- the fields of the type whose command stands at a place
  fields_after : ℕ → List Field
  fields_after q = body_at (eqb (get_or s q 0) 9) s p (after_at s q)

  -- the type of the name stands at q, or nobody declares it and q is where the stream ends
  record TypeAt (n : Str) (q : ℕ) : Type 0 where
    other : q < length s → get_or s q 0 ≡ 11 → ⊥
    fields : q < length s → type_fields (types_at s p) n ≡ fields_after q
    none : length s ≤ q → type_fields (types_at s p) n ≡ []

  module _ (n : Str) where
    fields-by : (a f : ℕ) → first_place s p 8 n ≡ a → first_place s p 9 n ≡ f → type_fields (types_at s p) n ≡ fields_in (struct_placed s p (sought_at s a)) (family_placed s p (sought_at s f))
    unfolding type_fields
    fields-by a f e g =
        ap (λ (t : Option Struct). fields_in t (family_in n (families_at s p 0))) ((first-placed s p n 8).struct refl ∙ ap (λ (j : ℕ). struct_placed s p (sought_at s j)) e)
        ∙ ap (fields_in (struct_placed s p (sought_at s a))) ((first-placed s p n 9).family refl ∙ ap (λ (j : ℕ). family_placed s p (sought_at s j)) g)

    -- a command of this number stands at q
    module _ (q b : ℕ) (number : get_or s q 0 ≡ b) where
      standing : (b ≡ 11 → ⊥) → (b ≡ 0 → ⊥) → type_fields (types_at s p) n ≡ body_at (eqb b 9) s p (after_at s q) → TypeAt n q
      unfolding fields_after
      standing ne nz e = record {
        other = λ l z. ne (sym number ∙ z);
        fields = λ l. e ∙ sym (ap (λ (c : ℕ). body_at (eqb c 9) s p (after_at s q)) number);
        none = λ l. absurd (nz (sym number ∙ get_or-eq_default s 0 {n = q} l));
      }

    by-places : (a f : ℕ) → first_place s p 8 n ≡ a → first_place s p 9 n ≡ f → TypeAt n (either_place s (sought_at s a) (sought_at s f))
    unfolding either_place sought_at fields_in body_at fields_at fields variants_at one
    by-places (suc q) f e g = standing q 8 (first-number s p n 8 q e) (λ z. omega arith) (λ z. omega arith) (fields-by (suc q) f e g)
    by-places zero (suc q) e g =
        standing q 9 (first-number s p n 9 q g) (λ z. omega arith) (λ z. omega arith) (fields-by 0 (suc q) e g ∙ family-fields s p (commands_at s (after_at s q)))
    by-places zero zero e g = record { other = λ (l : length s < length s). absurd (omega arith); fields = λ (l : length s < length s). absurd (omega arith); none = λ l. fields-by 0 0 e g }

    type_at : TypeAt n (type_place s p n)
    unfolding type_place
    type_at = by-places (first_place s p 8 n) (first_place s p 9 n) refl refl

    pub type-other : type_place s p n < length s → get_or s (type_place s p n) 0 ≡ 11 → ⊥
    type-other = type_at.other

    pub type-none : length s ≤ type_place s p n → type_fields (types_at s p) n ≡ []
    type-none = type_at.none

  -- names whose types stand at one place have the same fields
  pub same-type : (n k : Str) → type_place s p n < length s → type_place s p k ≡ type_place s p n → type_fields (types_at s p) k ≡ type_fields (types_at s p) n
  same-type n k l e = (type_at k).fields (omega (arith, l, e)) ∙ ap fields_after e ∙ sym ((type_at n).fields l)

-- what a reference leads to ----------------------------------------------------------------------------------------------

module _ (s p : Str) (x : List ℕ) (i : Indexed s p x) (n : Str) (r : Option (ℕ × ℕ)) (found : Declared s p x 8 n r) where
  pub enter-else : (b : Body) → r ≡ None → (Indexed s p x → Declared s p x 8 n None → IsBody s p n b) → Entering s p n (Some b)
  enter-else b m h = (sym ((slot-none s p x n r found m).is i), body-else s p x i n r found b m h)

  module _ (a k : ℕ) (y : Str) (o : Option Text) (m : r ≡ Some (a, k)) (d : y ≡ drop a s) (e : o ≡ opt_text_at y 4) where
    pub enter-slotted : (t : Text) → o ≡ Some t → Entering s p n None
    enter-slotted t h = sym ((slot-given s p x n r found a k y o m d e t h).is i)

    pub enter-free : (c : Cursor) → o ≡ None → c ≡ place k → Entering s p n (Some (record { place = a; from = c; family = false }))
    enter-free c h g = (sym ((slot-absent s p x n r found a k y o m d e h).is i), body-struct s p x i n r found a k c m g)

pub ruleset enter-laws = (enter-else, enter-slotted, enter-free)

-- a step -----------------------------------------------------------------------------------------------------------------

module _ (f : Bool) (s : Str) (at : ℕ) (o : Between) (u : o ≡ between f) (r : Option (ℕ × ℕ)) (i : SoughtFrom s o 11 at r) where
  body-from : SoughtFrom s (between f) 11 at r
  body-from = subst (λ (x : Between). SoughtFrom s x 11 at r) u i

  pub place_end : r ≡ None → PlacesFrom f s at None
  unfolding body_at
  place_end m = record { list = λ p. listed-none s (between f) 11 _ at r body-from m; left = omega arith; within = omega arith; number = refl }

  pub place_found : (a k : ℕ) (c : Cursor) → r ≡ Some (a, k) → c ≡ place k → PlacesFrom f s at (Some (a, c))
  unfolding body_at keys_at width_of width_with operands widths wide bytes
  place_found a k c m g =
      let h = sought-stands s o 11 at r i a k m in
      let w : k ≡ a + 33 = h.after in
      let near = sought-nearer s o 11 at r i a k m in
      let inside = h.within in
      let q : c.at ≡ k = ap (λ (x : Cursor). x.at) g in
      record {
        list = λ p. listed-some s (between f) 11 _ at r body-from a k m ∙ ap (λ (j : ℕ). field_of p (field_at (drop a s)) (field_key_at s p j) ∷ body_at f s p j) (sym q);
        left = omega arith;
        within = omega arith;
        number = h.number;
      }

pub ruleset place-laws = (place_end, place_found)

-- the cursor moves on
pub places-nearer : (f : Bool) (s : Str) (at : ℕ) (r : Step ℕ) → PlacesFrom f s at r → (q : ℕ) (k : Cursor) → r ≡ Some (q, k) → length s - k.at < length s - at
places-nearer f s at r h q k m = let g : suc (length s - k.at) ≤ length s - at = subst (λ x. body_left s x ≤ length s - at) m h.left in omega arith

-- a name that is entered is the one referred to, and has no slot
pub entered-is : (t : Types) (o : Option Str) (n : Str) → entered t o ≡ Some n → (o ≡ Some n) × (has_slot t n ≡ false)
unfolding entered
entered-is t None n e = absurd (let z : ◌≡◌ {A = ℕ} 0 1 = cc in omega arith)
entered-is t (Some x) n e = go (has_slot t x) refl e
  where
    go : (b : Bool) → has_slot t x ≡ b → cond b None (Some x) ≡ Some n → (Some x ≡ Some n) × (has_slot t n ≡ false)
    go true h g = absurd (let z : ◌≡◌ {A = ℕ} 0 1 = cc in omega arith)
    go false h g = let y : x ≡ n = cc in (g, ap (has_slot t) (sym y) ∙ h)

pub is-entered : (t : Types) (o : Option Str) (n : Str) → o ≡ Some n → has_slot t n ≡ false → entered t o ≡ Some n
unfolding entered
is-entered t o n e h = rw (e, h)

not_entered : (t : Types) (n : Str) → has_slot t n ≡ true → entered t (Some n) ≡ None
unfolding entered
not_entered t n h = rw h

-- what a field leads to --------------------------------------------------------------------------------------------------

module _ (s p : Str) (q : ℕ) where
  pub reference-is : (x : Str) (r : Option Text) → x ≡ drop q s → Refers p (field_at x) r → opt_of p r ≡ reference_at s p q
  unfolding reference_at
  reference-is x r h g = g.name None ∙ ap (λ (y : Str). referenced (field_of p (field_at y) None)) h

  module _ (r : Option Text) (found : opt_of p r ≡ reference_at s p q) where
    pub target_none : r ≡ None → LeadsToTarget s p q None
    unfolding target_at entered
    target_none m = ap (entered (types_at s p)) (sym found ∙ ap (opt_of p) m)

    module _ (x : List ℕ) (i : Indexed s p x) (t : Text) (w : Str) (m : r ≡ Some t) (e : w ≡ text_of p t) where
      named : reference_at s p q ≡ Some w
      named = sym found ∙ ap (opt_of p) m ∙ ap Some (sym e)

      entered-target : (o : Option Body) → Entering s p w o → LeadsToTarget s p q o
      unfolding target_at
      entered-target None h = ap (entered (types_at s p)) named ∙ not_entered (types_at s p) w h
      entered-target (Some b) h = record { name = w; target = is-entered (types_at s p) (reference_at s p q) w named h.0; body = h.1 }

      pub target-entered : (o : Option Body) → (Indexed s p x → Entering s p w o) → LeadsToTarget s p q o
      target-entered o h = entered-target o (h i)

pub ruleset target-laws = (target_none, target-entered)
