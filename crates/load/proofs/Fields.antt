-- The fields pass over a plan's two records: it is that of the root alone, and what it says for each outcome. Assumes nothing.
use Rattle.std.specs.Prelude.{Some}
use mathlib.Core.Path.{◌≡◌, refl, sym, ◌∙◌, ap, subst}
use mathlib.Core.List.Memᴰ
use mathlib.Core.List.{List, [], ◌∷◌, ◌++◌, map, Memᴰ, map-append}
use mathlib.Core.Bool.{Bool, true, false, ◌&&◌, beq}
use mathlib.Core.Logic.{◌⊎◌, inl, inr}
use Prim.Native.Nat.{ℕ, ◌+◌}
use native.Mathlib.Omega.{arith}
use borrow.Author.Tests.{eq-eqb, ne_eqb}
use Rattle.record.specs.Base.{Str, eqs, find}
use Rattle.record.specs.Schema.{Schema, Field}
use Rattle.record.specs.Shapes.{FieldLayout, shape_size, place_of, places}
use Rattle.layout.specs.Layout.{TypeLayout, lay_struct}
use Rattle.record.proofs.Basics.{eqs→eq, eqs-refl}
use Rattle.definition.specs.Verdicts.{pass, field_gone, moved, resized}
use Rattle.definition.specs.Pass.{◌then◌, ensure, each, on_found}
use Rattle.definition.specs.Fields.{place_in, check_kept, check_place, check_places, check_type, check_fields, eq_place, eq_places}
use Rattle.definition.specs.Chain.{NoDup}
use Rattle.load.specs.Plan.{Plan, whole, released, root}
use Rattle.load.specs.Wanted.{end_of}
use Rattle.load.specs.Feasible.{Feasible, Apart}
use Rattle.load.proofs.Each.{each-one, each_all, each-front, find-left, find-right, find-nowhere, find-keyed}
use Rattle.load.proofs.Layouts.{laid, layouts, eqs-swap, place-names, root-found, other-found, self-found, root-member, layout-cases}

-- a field that is found as it was
kept : (owner : Str) (is : List FieldLayout) (f : FieldLayout) → place_in f.name is ≡ Some f → check_place owner is f ≡ pass
unfolding check_place check_kept on_found ◌then◌ ensure
kept owner is f h = go f.padding
  where
    go : (b : Bool) → ensure b (on_found (place_in f.name is) (field_gone owner f.name) (check_kept owner f)) ≡ pass
    go true = refl
    go false = rw (h, eq-eqb f.offset f.offset refl, eq-eqb f.size f.size refl, eqs-refl f.described)

-- fields of which no two have one name are kept by a list that begins with them
pub kept-front : (owner : Str) (l k : List FieldLayout) → NoDup (map (λ (f : FieldLayout). f.name) l) → (f : FieldLayout) → Memᴰ f l → check_place owner (l ++ k) f ≡ pass
unfolding place_in
kept-front owner l k d f m = kept owner (l ++ k) f (find-left (λ (x : FieldLayout). eqs x.name f.name) l k (find-keyed (λ (x : FieldLayout). x.name) l d m))

pub kept_self : (owner : Str) (l : List FieldLayout) → NoDup (map (λ (f : FieldLayout). f.name) l) → check_places owner l l ≡ pass
unfolding check_places place_in
kept_self owner l d = each_all (check_place owner l) l (λ f m. kept owner l f (find-keyed (λ (x : FieldLayout). x.name) l d m))

-- the pass is the root's
module _ (p : Plan) (g : Feasible p) (is was : List Field) where
  of-type : (t : TypeLayout) → Memᴰ t (layouts p was)
      → (check_type (layouts p is) t ≡ pass) ⊎ (check_type (layouts p is) t ≡ check_places p.name (laid p is).fields (laid p was).fields)
  unfolding check_type on_found laid root lay_struct
  of-type t m = go (layout-cases p g was m)
    where
      at-root : check_type (layouts p is) (laid p was) ≡ check_places p.name (laid p is).fields (laid p was).fields
      at-root = rw (root-found p g is)

      go : (t ≡ laid p was) ⊎ Apart p.name t → (check_type (layouts p is) t ≡ pass) ⊎ (check_type (layouts p is) t ≡ check_places p.name (laid p is).fields (laid p was).fields)
      go (inl e) = inr (ap (check_type (layouts p is)) e ∙ at-root)
      go (inr a) =
          inl (rw (other-found p g is was t.name (eqs-swap t.name p.name a.named) ∙ self-found p g was m) (kept_self t.name t.fields a.once))

  pub fields-of-root : check_fields (layouts p is) (layouts p was) ≡ check_places p.name (laid p is).fields (laid p was).fields
  unfolding check_fields check_type on_found laid root lay_struct
  fields-of-root = each-one (check_type (layouts p is)) (layouts p was) (check_places p.name (laid p is).fields (laid p was).fields) of-type (root-member p g was) (rw (root-found p g is))

-- names of which no two are the same -----------------------------------------------------------------------------------------------------------

module _ {A : Type 0} (key : A → Str) where
  once-left : (l k : List A) → NoDup (map key (l ++ k)) → NoDup (map key l)
  once-left [] k d = tt
  once-left (x ∷ l) k d = (λ m. d.0 (subst (Memᴰ (key x)) (sym (map-append key l k)) (Memᴰ.append_left (map key k) m)), once-left l k d.1)

  -- none before, and none after, has the name of one in between
  once-before : (l : List A) (y : A) (k : List A) → NoDup (map key (l ++ (y ∷ k))) → (x : A) → Memᴰ x l → eqs (key x) (key y) ≡ false
  once-before [] y k d x m = absurd (Memᴰ.not-nil m)
  once-before (z ∷ l) y k d x (Memᴰ.head e) = go (eqs (key x) (key y)) refl
    where
      go : (b : Bool) → eqs (key x) (key y) ≡ b → b ≡ false
      go true h =
          absurd (d.0 (subst (λ (w : Str). Memᴰ w (map key (l ++ (y ∷ k)))) (sym (eqs→eq (key x) (key y) h) ∙ ap key e)
          (Memᴰ.map key (Memᴰ.append_right l (Memᴰ.head refl)))))
      go false h = refl
  once-before (z ∷ l) y k d x (Memᴰ.tail m) = once-before l y k d.1 x m

  once_after : (l : List A) (y : A) (k : List A) → NoDup (map key (l ++ (y ∷ k))) → (x : A) → Memᴰ x k → eqs (key x) (key y) ≡ false
  once_after [] y k d x m = go (eqs (key x) (key y)) refl
    where
      go : (b : Bool) → eqs (key x) (key y) ≡ b → b ≡ false
      go true h = absurd (d.0 (subst (λ (w : Str). Memᴰ w (map key k)) (eqs→eq (key x) (key y) h) (Memᴰ.map key m)))
      go false h = refl
  once_after (z ∷ l) y k d x m = once_after l y k d.1 x m

-- the places of joined lists ---------------------------------------------------------------------------------------------------------------------

pub places-append : (s : Schema) (at : ℕ) (l k : List Field) → places s at (l ++ k) ≡ places s at l ++ places s (end_of s at l) k
unfolding places end_of
places-append s at [] k = refl
places-append s at (f ∷ l) k = ap (λ (x : List FieldLayout). place_of s at f ∷ x) (places-append s (at + shape_size s f) l k)

-- a test of names that no field passes, no place does
names-away : (s : Schema) (q : Str → Bool) (at : ℕ) (l : List Field) → ((f : Field) → Memᴰ f l → q f.name ≡ false) → (x : FieldLayout) → Memᴰ x (places s at l) → q x.name ≡ false
unfolding places place_of
names-away s q at [] h x m = absurd (Memᴰ.not-nil m)
names-away s q at (f ∷ l) h x (Memᴰ.head e) = ap (λ (y : FieldLayout). q y.name) e ∙ h f (Memᴰ.head refl)
names-away s q at (f ∷ l) h x (Memᴰ.tail m) = names-away s q (at + shape_size s f) l (λ y i. h y (Memᴰ.tail i)) x m

-- what becomes of the target field ---------------------------------------------------------------------------------------------------------------

module _ (p : Plan) (g : Feasible p) where
  -- where the target field begins
  unfoldable pub seam : ℕ
  seam = end_of (released p) 0 p.front

  unfoldable pub target_place : FieldLayout
  target_place = place_of (released p) seam p.target

  rest : ℕ → List Field → List FieldLayout
  rest at k = places (released p) at k

  front : List FieldLayout
  front = places (released p) 0 p.front

  front-once : NoDup (map (λ (x : FieldLayout). x.name) front)
  unfolding front whole
  front-once = subst NoDup (sym (place-names (released p) 0 p.front)) (once-left (λ (f : Field). f.name) p.front (p.target ∷ p.back) g.once)

  -- none in front of it, and none behind it, has its name
  front-away : (x : FieldLayout) → Memᴰ x front → eqs x.name p.target.name ≡ false
  unfolding front whole
  front-away = names-away (released p) (λ (n : Str). eqs n p.target.name) 0 p.front (once-before (λ (f : Field). f.name) p.front p.target p.back g.once)

  back-away : (at : ℕ) (x : FieldLayout) → Memᴰ x (rest at p.back) → eqs x.name p.target.name ≡ false
  unfolding rest whole
  back-away at = names-away (released p) (λ (n : Str). eqs n p.target.name) at p.back (once_after (λ (f : Field). f.name) p.front p.target p.back g.once)

  -- the released root's places
  whole-places : places (released p) 0 (whole p) ≡ front ++ (target_place ∷ rest (seam + shape_size (released p) p.target) p.back)
  unfolding whole front rest target_place seam places
  whole-places = places-append (released p) 0 p.front (p.target ∷ p.back)

  -- where the current root begins with the same front, all is decided at the target field
  at_target : (k : List FieldLayout) → check_places p.name (front ++ k) (places (released p) 0 (whole p))
      ≡ (check_place p.name (front ++ k) target_place then check_places p.name (front ++ k) (rest (seam + shape_size (released p) p.target) p.back))
  unfolding check_places each
  at_target k =
      ap (each (check_place p.name (front ++ k))) whole-places
      ∙ each-front (check_place p.name (front ++ k)) front (target_place ∷ rest (seam + shape_size (released p) p.target) p.back) (λ f m. kept-front p.name front k front-once f m)

  -- and by what is found of its name
  target_found : (k : List FieldLayout) → check_place p.name (front ++ k) target_place
      ≡ on_found (place_in p.target.name k) (field_gone p.name p.target.name) (check_kept p.name target_place)
  unfolding check_place target_place place_of ensure place_in
  target_found k = rw (g.target_real, find-right (λ (f : FieldLayout). eqs f.name p.target.name) front k front-away)

  pub gone : check_places p.name (places (released p) 0 (p.front ++ p.back)) (places (released p) 0 (whole p)) ≡ field_gone p.name p.target.name
  unfolding ◌then◌ on_found place_in field_gone front rest
  gone =
      ap (λ (x : List FieldLayout). check_places p.name x (places (released p) 0 (whole p))) (places-append (released p) 0 p.front p.back)
      ∙ at_target (rest seam' p.back)
      ∙ rw (target_found (rest seam' p.back), find-nowhere (λ (f : FieldLayout). eqs f.name p.target.name) (rest seam' p.back) (back-away seam'))
    where
      seam' : ℕ
      seam' = end_of (released p) 0 p.front

  -- moved by the inserted field
  pub pushed : check_places p.name (places (released p) 0 (p.front ++ (p.inserted ∷ p.target ∷ p.back))) (places (released p) 0 (whole p))
      ≡ moved p.name p.target.name seam (seam + shape_size (released p) p.inserted)
  unfolding ◌then◌ on_found place_in check_kept ensure moved front rest seam target_place places place_of find
  pushed =
      let n : seam + shape_size (released p) p.inserted ≡ seam → ⊥ = λ e. (let z = g.inserted-sized in omega arith) in
      ap (λ (x : List FieldLayout). check_places p.name x (places (released p) 0 (whole p))) (places-append (released p) 0 p.front (p.inserted ∷ p.target ∷ p.back))
      ∙ at_target (rest seam (p.inserted ∷ p.target ∷ p.back))
      ∙ rw (target_found (rest seam (p.inserted ∷ p.target ∷ p.back)), g.inserted-named, eqs-refl p.target.name, ne_eqb (seam + shape_size (released p) p.inserted) seam n)

  pub widened : check_places p.name (places (released p) 0 (p.front ++ (p.retyped ∷ p.back))) (places (released p) 0 (whole p))
      ≡ resized p.name p.target.name (shape_size (released p) p.target) (shape_size (released p) p.retyped)
  unfolding ◌then◌ on_found place_in check_kept ensure resized front rest seam target_place places place_of find
  widened =
      ap (λ (x : List FieldLayout). check_places p.name x (places (released p) 0 (whole p))) (places-append (released p) 0 p.front (p.retyped ∷ p.back))
      ∙ at_target (rest seam (p.retyped ∷ p.back))
      ∙ rw (target_found (rest seam (p.retyped ∷ p.back)), ap (λ (n : Str). eqs n p.target.name) g.retyped-named ∙ eqs-refl p.target.name, eq-eqb seam seam refl, ne_eqb (shape_size (released p) p.retyped) (shape_size (released p) p.target) g.retyped-sized)

  pub grown : check_places p.name (places (released p) 0 (whole p ++ (p.added ∷ []))) (places (released p) 0 (whole p)) ≡ pass
  unfolding check_places
  grown =
      ap (λ (x : List FieldLayout). check_places p.name x (places (released p) 0 (whole p))) (places-append (released p) 0 (whole p) (p.added ∷ []))
      ∙ each_all (check_place p.name (places (released p) 0 (whole p) ++ more)) (places (released p) 0 (whole p))
      (λ f m. kept-front p.name (places (released p) 0 (whole p)) more (subst NoDup (sym (place-names (released p) 0 (whole p))) g.once) f m)
    where
      more : List FieldLayout
      more = places (released p) (end_of (released p) 0 (whole p)) (p.added ∷ [])

  -- a list is not the same with one more at its end
  longer : (l : List FieldLayout) (x : FieldLayout) → eq_places l (l ++ (x ∷ [])) ≡ false
  unfolding eq_places
  longer [] x = refl
  longer (y ∷ l) x = go (eq_place y y) (longer l x)
    where
      go : (b : Bool) → eq_places l (l ++ (x ∷ [])) ≡ false → (b && eq_places l (l ++ (x ∷ []))) ≡ false
      go true e = e
      go false e = refl

  pub grown-differs : eq_places (places (released p) 0 (whole p)) (places (released p) 0 (whole p ++ (p.added ∷ []))) ≡ false
  unfolding places
  grown-differs =
      ap (eq_places (places (released p) 0 (whole p))) (places-append (released p) 0 (whole p) (p.added ∷ []))
      ∙ longer (places (released p) 0 (whole p)) (place_of (released p) (end_of (released p) 0 (whole p)) p.added)

pub same-places : (l : List FieldLayout) → eq_places l l ≡ true
unfolding eq_places eq_place
same-places [] = refl
same-places (f ∷ l) = rw (eqs-refl f.name, eq-eqb f.offset f.offset refl, eq-eqb f.size f.size refl, eqs-refl f.described, same_flag f.padding) (same-places l)
  where
    same_flag : (b : Bool) → beq b b ≡ true
    same_flag true = refl
    same_flag false = refl
