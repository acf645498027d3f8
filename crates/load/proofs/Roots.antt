-- The root of a plan's records: it is the one in a slot, it holds the generation, it owns itself. The standalone pass and the generations pass. Assumes nothing.
use Rattle.std.specs.Prelude.{Option, Some, None}
use mathlib.Core.Path.{◌≡◌, refl, sym, ◌∙◌, ap, subst}
use mathlib.Core.List.Memᴰ
use mathlib.Core.List.{List, [], ◌∷◌, Memᴰ}
use mathlib.Core.Bool.{Bool, true, false, false≢true, not, cond}
use mathlib.Core.Logic.{◌⊎◌, inl, inr}
use Prim.Native.Nat.{ℕ, ◌<◌, ◌^◌}
use borrow.Author.Tests.{lt-ltb, not-true}
use Rattle.record.specs.Base.{Str, bytes, eqs, is_text, find, any, map_option}
use Rattle.record.specs.Schema.{Const, Field, Struct, Family, Version}
use Rattle.record.specs.Steps.{struct_in, constant_in}
use Rattle.record.specs.Generation.{as_generation, of_constant, of_version, of_struct, generation_of}
use Rattle.record.specs.Versioned.{slot_order, versioned}
use Rattle.record.specs.Owner.{Types, struct_in_slot, roots_in, with_name, ownership_order, roots, owner_of, First, here, now}
use Rattle.record.proofs.Basics.{eqs-refl, find-any, find-some, filter-mem}
use Rattle.record.proofs.Walk.{owner-is-first}
use Rattle.layout.specs.Layout.{TypeLayout, type_in, lay_struct}
use Rattle.definition.specs.Verdicts.{pass}
use Rattle.definition.specs.Pass.{◌then◌, ensure, each, on_found}
use Rattle.definition.specs.Constants.{holds_in, held_by_any, is_generation}
use Rattle.definition.specs.Fields.{eq_places, same_as, changed}
use Rattle.definition.specs.Standalone.{layouts_of, check_same, check_shipped, check_shipped_all, check_family, check_standalone}
use Rattle.definition.specs.Coverage.{check_covered, check_all_covered, under, first_under}
use Rattle.definition.specs.Generations.{check_rise, check_from, check_against, check_generation, check_roots, check_generations}
use Rattle.definition.proofs.Same.{owning-plain}
use Rattle.load.specs.Plan.{Plan, root, structs_with, generation_at}
use Rattle.load.specs.Feasible.{Feasible, Apart}
use Rattle.load.proofs.Each.{each_all, find-right, find-nowhere, filter-of}
use Rattle.load.proofs.Layouts.{laid, layouts, eqs-swap, root-found, other-found, self-found, root-member, layout-cases}
use Rattle.load.proofs.Fields.{same-places}

-- the root is the one structure of its name, and the one with a slot ------------------------------------------------------------------------------

module _ (p : Plan) (g : Feasible p) (fs : List Field) where
  before-not : (n : Str) (t : Struct) → Memᴰ t p.before → is_text t.slot n ≡ false
  unfolding is_text
  before-not n t m = ap (λ (o : Option Str). is_text o n) (g.before-other t m).free

  after-not : (n : Str) (t : Struct) → Memᴰ t p.after → is_text t.slot n ≡ false
  unfolding is_text
  after-not n t m = ap (λ (o : Option Str). is_text o n) (g.after-other t m).free

  -- what a slot holds
  in-slot : (n : Str) → struct_in_slot n (structs_with p fs) ≡ cond (eqs p.slot n) (Some (root p fs)) None
  unfolding struct_in_slot structs_with find root is_text
  in-slot n =
      find-right (λ (t : Struct). is_text t.slot n) p.before (root p fs ∷ p.after) (before-not n)
      ∙ ap (cond (eqs p.slot n) (Some (root p fs))) (find-nowhere (λ (t : Struct). is_text t.slot n) p.after (after-not n))

  -- one root, in whatever order the slots are taken
  slot_cases : (x : Str) → Memᴰ x slot_order → (x ≡ bytes "info") ⊎ ((x ≡ bytes "metadata") ⊎ (x ≡ bytes "runtime"))
  unfolding slot_order
  slot_cases x (Memᴰ.head e) = inl e
  slot_cases x (Memᴰ.tail (Memᴰ.head e)) = inr (inl e)
  slot_cases x (Memᴰ.tail (Memᴰ.tail (Memᴰ.head e))) = inr (inr e)
  slot_cases x (Memᴰ.tail (Memᴰ.tail (Memᴰ.tail m))) = absurd (Memᴰ.not-nil m)

  pub versioned-one : versioned (structs_with p fs) ≡ p.name ∷ []
  unfolding versioned slot_order roots_in with_name bytes eqs root
  versioned-one = go (slot_cases p.slot g.in-slot)
    where
      go : (p.slot ≡ bytes "info") ⊎ ((p.slot ≡ bytes "metadata") ⊎ (p.slot ≡ bytes "runtime")) → roots_in (structs_with p fs) slot_order ≡ p.name ∷ []
      go (inl e) = rw (in-slot (bytes "info"), in-slot (bytes "metadata"), in-slot (bytes "runtime"), e)
      go (inr (inl e)) = rw (in-slot (bytes "info"), in-slot (bytes "metadata"), in-slot (bytes "runtime"), e)
      go (inr (inr e)) = rw (in-slot (bytes "info"), in-slot (bytes "metadata"), in-slot (bytes "runtime"), e)

  roots-one : roots_in (structs_with p fs) ownership_order ≡ p.name ∷ []
  unfolding ownership_order roots_in with_name bytes eqs root
  roots-one = go (slot_cases p.slot g.in-slot)
    where
      go : (p.slot ≡ bytes "info") ⊎ ((p.slot ≡ bytes "metadata") ⊎ (p.slot ≡ bytes "runtime")) → roots_in (structs_with p fs) ownership_order ≡ p.name ∷ []
      go (inl e) = rw (in-slot (bytes "metadata"), in-slot (bytes "runtime"), in-slot (bytes "info"), e)
      go (inr (inl e)) = rw (in-slot (bytes "metadata"), in-slot (bytes "runtime"), in-slot (bytes "info"), e)
      go (inr (inr e)) = rw (in-slot (bytes "metadata"), in-slot (bytes "runtime"), in-slot (bytes "info"), e)

  -- the types of a record of the plan
  abbrev pub types_with : Types
  types_with = record { structs = structs_with p fs; families = p.families }

  pub owns-itself : owner_of types_with p.name ≡ Some p.name
  unfolding roots
  owns-itself = (owner-is-first types_with p.name p.name).1 (subst (λ (l : List Str). First types_with p.name l p.name) (sym roots-one) (now refl (here refl)))

  named-root : struct_in p.name (structs_with p fs) ≡ Some (root p fs)
  unfolding struct_in structs_with find root
  named-root = find-right (λ (t : Struct). eqs t.name p.name) p.before (root p fs ∷ p.after) (λ t m. (g.before-other t m).named) ∙ rw (eqs-refl p.name)

  -- the generation that it holds, where the constant comes first
  pub holds : (n : ℕ) (cs : List Const) → n < 2 ^ 32 → generation_of (structs_with p fs) (generation_at p n ∷ cs) p.name ≡ Some (record { constant = p.constant; number = n })
  unfolding generation_of of_struct of_version of_constant as_generation constant_in find generation_at root
  holds n cs h = rw (named-root, eqs-refl p.constant, lt-ltb n (2 ^ 32) h)

  pub is-generation : (n : ℕ) (cs : List Const) → n < 2 ^ 32 → is_generation (structs_with p fs) (generation_at p n ∷ cs) p.constant ≡ true
  unfolding is_generation held_by_any any holds_in
  is-generation n cs h = rw (versioned-one, holds n cs h, eqs-refl p.constant)

module _ (p : Plan) (g : Feasible p) (is was : List Field) where
  -- the standalone pass: no layout of a family is the root's -------------------------------------------------------------------------------------

  shipped : (k : Str) → eqs p.name k ≡ false → check_shipped (layouts p is) (layouts p was) k ≡ pass
  unfolding check_shipped on_found check_same ensure
  shipped k d = rw (other-found p g is was k d) (go (type_in k (layouts p was)))
    where
      go : (o : Option TypeLayout) → on_found o pass (λ (old : TypeLayout). on_found o pass (λ (new : TypeLayout). check_same k new.fields old.fields)) ≡ pass
      go None = refl
      go (Some t) = rw (same-places t.fields)

  family-pass : (m : Family) → Memᴰ m p.families → check_family p.families (layouts p is) (layouts p was) m ≡ pass
  unfolding check_family ◌then◌ check_shipped_all ensure
  family-pass m i = rw (g.families-stand m i).standing (go (not m.standalone))
    where
      go : (b : Bool) → ensure b (check_shipped_all (layouts p is) (layouts p was) (layouts_of m)) ≡ pass
      go true = refl
      go false = each_all (check_shipped (layouts p is) (layouts p was)) (layouts_of m) (λ k j. shipped k ((g.families-stand m i).apart k j))

  pub standalone-pass : check_standalone p.families p.families (layouts p is) (layouts p was) ≡ pass
  unfolding check_standalone
  standalone-pass = each_all (check_family p.families (layouts p is) (layouts p was)) p.families family-pass

  -- the generations pass: a layout that changed is the root's ------------------------------------------------------------------------------------

  changed-named : (t : TypeLayout) → Memᴰ t (changed (layouts p is) (layouts p was)) → t.name ≡ p.name
  unfolding changed same_as laid root lay_struct
  changed-named t m =
      let k = filter-of (λ (t : TypeLayout). not (same_as (type_in t.name (layouts p was)) t)) (layouts p is) m in
      go (layout-cases p g is k.0) k.0 k.1
    where
      go : (t ≡ laid p is) ⊎ Apart p.name t → Memᴰ t (layouts p is) → not (same_as (type_in t.name (layouts p was)) t) ≡ true → t.name ≡ p.name
      go (inl e) i h = ap (λ (x : TypeLayout). x.name) e
      go (inr a) i h =
          absurd (false≢true (sym (not-true (same_as (type_in t.name (layouts p was)) t) h)
          ∙ ap (λ (o : Option TypeLayout). same_as o t) (other-found p g was is t.name (eqs-swap t.name p.name a.named) ∙ self-found p g is i)
          ∙ same-places t.fields))

  covered : (t : TypeLayout) → Memᴰ t (changed (layouts p is) (layouts p was)) → check_covered (types_with p g is) t ≡ pass
  unfolding check_covered ensure on_found
  covered t m = rw (changed-named t m, owning-plain p.name g.no-colon, g.none-alone, owns-itself p g is)

  pub all-covered : check_all_covered (types_with p g is) (changed (layouts p is) (layouts p was)) ≡ pass
  unfolding check_all_covered
  all-covered = each_all (check_covered (types_with p g is)) (changed (layouts p is) (layouts p was)) covered

  is-under : (t : TypeLayout) → t.name ≡ p.name → under (types_with p g is) p.name t ≡ true
  unfolding under is_text
  is-under t e = rw (e, owning-plain p.name g.no-colon, g.none-alone, owns-itself p g is, eqs-refl p.name)

  -- where the root's layout changed, it is what is found under the root
  pub root-touched : eq_places (laid p was).fields (laid p is).fields ≡ false → first_under (types_with p g is) (changed (layouts p is) (layouts p was)) p.name ≡ Some p.name
  unfolding first_under map_option changed same_as laid root lay_struct
  root-touched d =
      let m = filter-mem (λ (t : TypeLayout). not (same_as (type_in t.name (layouts p was)) t)) (layouts p is) (root-member p g is) (rw (root-found p g was, d)) in
      let f = find-any (under (types_with p g is) p.name) (changed (layouts p is) (layouts p was)) m (is-under (laid p is) refl) in
      let k = find-some (under (types_with p g is) p.name) (changed (layouts p is) (layouts p was)) f.1 in
      ap (map_option (λ (t : TypeLayout). t.name)) f.1 ∙ ap Some (changed-named f.0 k.0)

  -- the pass, for the generation before and now
  module _ (r s : Str) (vs : List Version) (cs cs₀ : List Const) where
    pub risen : (a b : ℕ) → a < 2 ^ 32 → b < 2 ^ 32
        → check_generations r (Some s) vs (types_with p g is) (generation_at p b ∷ cs) (generation_at p a ∷ cs₀) (changed (layouts p is) (layouts p was))
        ≡ (check_rise r (Some s) vs (first_under (types_with p g is) (changed (layouts p is) (layouts p was)) p.name) p.name p.constant a b then pass)
    unfolding check_generations ◌then◌ check_roots each check_generation on_found check_against check_from ensure constant_in find generation_at
    risen a b h k = rw (all-covered, versioned-one p g is, holds p g is b cs k, eqs-refl p.constant, lt-ltb a (2 ^ 32) h)
