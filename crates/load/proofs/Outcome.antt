-- A feasible plan's pair gets the wanted verdict, pass by pass: 02's "the wanted outcome .. is met", over schemas. Assumes nothing.
use Rattle.std.specs.Prelude.{Some, None}
use mathlib.Core.Path.{◌≡◌, refl, ◌∙◌, ap, subst}
use mathlib.Core.List.Memᴰ
use mathlib.Core.List.{List, [], ◌∷◌, ◌++◌, Memᴰ}
use mathlib.Core.Logic.{◌⊎◌, inl, inr}
use Prim.Native.Nat.{ℕ, ◌+◌, ◌<◌, ◌^◌}
use native.Mathlib.Omega.{arith}
use borrow.Author.Tests.{eq-eqb, ne_eqb, le-ltb}
use Rattle.record.specs.Base.{Str, any, or_else, with_some}
use Rattle.record.specs.Schema.{Const, Key, Field, Struct, Version}
use Rattle.record.specs.Keys.{field_keys, plugin_keys}
use Rattle.record.proofs.Basics.{eqs-refl}
use Rattle.layout.specs.Layout.{TypeLayout, lay_struct}
use Rattle.definition.specs.Verdicts.{Verdict, pass, word_number, verdict_number, constant_gone, field_gone, moved, resized, unraised}
use Rattle.definition.specs.Pass.{◌then◌, ensure, required, on_found}
use Rattle.definition.specs.ReleaseOrder.{check_release_order}
use Rattle.definition.specs.FirstReleases.{check_first_releases}
use Rattle.definition.specs.Constants.{check_constants}
use Rattle.definition.specs.Enums.{check_enums}
use Rattle.definition.specs.Bitfields.{check_bitfields}
use Rattle.definition.specs.BitfieldReleases.{check_bitfield_releases}
use Rattle.definition.specs.Fields.{check_fields, check_places, changed}
use Rattle.definition.specs.Standalone.{check_standalone}
use Rattle.definition.specs.Generations.{is_listed, check_still, check_rise, check_generations}
use Rattle.definition.specs.Compare.{pass_list, first_of, compare}
use Rattle.load.specs.Plan.{Plan, outcome_number, whole, edited, root, structs_with, generation_now, constants_with, constants_without, constants_now, entry_at, schema_with, released, current}
use Rattle.load.specs.Wanted.{target_offset, wanted}
use Rattle.load.specs.Feasible.{Feasible, Keyless}
use Rattle.load.proofs.Layouts.{laid, layouts, types_are}
use Rattle.load.proofs.Fields.{seam, fields-of-root, gone, pushed, widened, grown, grown-differs}
use Rattle.load.proofs.Roots.{types_with, is-generation, standalone-pass, root-touched, risen}
use Rattle.load.specs.declared.outcomes.Outcome.{Outcome}
use Rattle.load.specs.declared.outcomes.Outcome.TheVariants as O

-- no field has a plugin key ------------------------------------------------------------------------------------------------------------------------

no_keys : (fs : List Field) (l : List Key) → Keyless fs → field_keys fs l ≡ l
unfolding field_keys with_some
no_keys [] l h = refl
no_keys (f ∷ fs) l h = rw (h f (Memᴰ.head refl)) (no_keys fs l (λ x m. h x (Memᴰ.tail m)))

no-plugin-keys : (ss : List Struct) (l : List Key) → ((t : Struct) → Memᴰ t ss → Keyless t.fields) → plugin_keys ss l ≡ l
unfolding plugin_keys
no-plugin-keys [] l h = refl
no-plugin-keys (t ∷ ts) l h = no_keys t.fields (plugin_keys ts l) (h t (Memᴰ.head refl)) ∙ no-plugin-keys ts l (λ x m. h x (Memᴰ.tail m))

module _ (p : Plan) (g : Feasible p) where
  keys-are : (fs : List Field) → Keyless fs → plugin_keys (structs_with p fs) p.unstored ≡ p.unstored
  unfolding structs_with root
  keys-are fs k = no-plugin-keys (structs_with p fs) p.unstored (λ t m. go t (Memᴰ.append_cases p.before m))
    where
      go : (t : Struct) → Memᴰ t p.before ⊎ Memᴰ t (root p fs ∷ p.after) → Keyless t.fields
      go t (inl m) = (g.before-other t m).keyless
      go t (inr (Memᴰ.head e)) = λ f i. k f (subst (λ (x : Struct). Memᴰ f x.fields) e i)
      go t (inr (Memᴰ.tail m)) = (g.after-other t m).keyless

  -- two lists of fields with one field between
  joined-keyless : (l k : List Field) → Keyless l → Keyless k → Keyless (l ++ k)
  joined-keyless l k a b f m = go (Memᴰ.append_cases l m)
    where
      go : Memᴰ f l ⊎ Memᴰ f k → f.key ≡ None
      go (inl i) = a f i
      go (inr i) = b f i

  front_of : (f : Field) (k : List Field) → f.key ≡ None → Keyless k → Keyless (f ∷ k)
  front_of f k e h x (Memᴰ.head q) = ap (λ (y : Field). y.key) q ∙ e
  front_of f k e h x (Memᴰ.tail m) = h x m

  nothing-keyless : Keyless []
  nothing-keyless x m = absurd (Memᴰ.not-nil m)

  whole-keyless : Keyless (whole p)
  unfolding whole
  whole-keyless = joined-keyless p.front (p.target ∷ p.back) g.front-keyless (front_of p.target p.back g.target-keyless g.back-keyless)

  edited-keyless : (o : Outcome) → Keyless (edited o p)
  unfolding edited
  edited-keyless O.Accepted = joined-keyless (whole p) (p.added ∷ []) whole-keyless (front_of p.added [] g.added-keyless nothing-keyless)
  edited-keyless O.ConstantGone = whole-keyless
  edited-keyless O.FieldGone = joined-keyless p.front p.back g.front-keyless g.back-keyless
  edited-keyless O.FieldMoved = joined-keyless p.front (p.inserted ∷ p.target ∷ p.back) g.front-keyless (front_of p.inserted (p.target ∷ p.back) g.inserted-keyless (front_of p.target p.back g.target-keyless g.back-keyless))
  edited-keyless O.FieldResized = joined-keyless p.front (p.retyped ∷ p.back) g.front-keyless (front_of p.retyped p.back g.retyped-keyless g.back-keyless)
  edited-keyless O.Unraised = joined-keyless (whole p) (p.added ∷ []) whole-keyless (front_of p.added [] g.added-keyless nothing-keyless)

  -- the ten passes, over given layouts and plugin keys -------------------------------------------------------------------------------------------

  given : (r s : Str) (cs ds : List Const) (fs : List Field) (vs : List Version) → List TypeLayout → List TypeLayout → List Key → List Key → Verdict
  given r s cs ds fs vs is was ks ls =
      check_release_order r (Some s)
      then (check_first_releases r (Some s) cs ds p.enums p.enums ks ls
      then (check_constants (structs_with p fs) cs ds
      then (check_enums p.enums p.enums
      then (check_bitfields p.bitfields p.bitfields
      then (check_bitfield_releases r p.bitfields p.bitfields
      then (check_fields is was
      then (check_standalone p.families p.families is was
      then (check_generations r (Some s) vs (types_with p g fs) cs ds (changed is was)
      then pass))))))))

  compare-is : (r s : Str) (cs ds : List Const) (fs gs : List Field) (vs ws : List Version) → Keyless fs → Keyless gs
      → compare (schema_with p r cs fs vs) (schema_with p s ds gs ws) ≡ given r s cs ds fs vs (layouts p fs) (layouts p gs) p.unstored p.unstored
  unfolding compare pass_list first_of required or_else given schema_with
  compare-is r s cs ds fs gs vs ws a b =
      λ i. given r s cs ds fs vs (types_are p r cs fs vs i) (types_are p s ds gs ws i) (keys-are fs a i) (keys-are gs b i)

  -- where no constant is left out, the early passes pass, and the fields pass is the root's; the standalone pass passes
  from_fields : (m : ℕ) (fs : List Field) (vs : List Version) → m < 2 ^ 32 → Keyless fs
      → compare (schema_with p p.now (constants_with p m) fs vs) (released p)
      ≡ (check_places p.name (laid p fs).fields (laid p (whole p)).fields
      then (check_generations p.now (Some p.was) vs (types_with p g fs) (constants_with p m) (constants_with p p.generation) (changed (layouts p fs) (layouts p (whole p))) then pass))
  unfolding released given ◌then◌ constants_with
  from_fields m fs vs h k =
      compare-is p.now p.was (constants_with p m) (constants_with p p.generation) fs (whole p) vs (entry_at p p.generation ∷ []) k whole-keyless
      ∙ rw (
        g.order,
        g.dated m p.generation,
        g.constants-kept (structs_with p fs) m p.generation (is-generation p g fs m (p.spare ∷ p.constants) h),
        g.enums-kept,
        g.bits-kept,
        g.bits-dated,
        fields-of-root p g fs (whole p),
        standalone-pass p g fs (whole p),
      )

  small : p.generation < 2 ^ 32
  small = let s = g.small in omega arith

  -- 02: accepted, or one named verdict among 20, 34, 35, 36 and 43
  pub outcome-is : (o : Outcome) → compare (current o p) (released p) ≡ wanted o p
  unfolding wanted target_offset seam constant_gone current constants_now generation_now edited ◌then◌ laid root lay_struct field_gone moved resized unraised
      check_rise check_still on_found is_listed any entry_at ensure constants_with constants_without given released
  outcome-is O.Accepted =
      from_fields (p.generation + 1) (edited O.Accepted p) (entry_at p (p.generation + 1) ∷ []) g.small (edited-keyless O.Accepted)
      ∙ rw (
        grown p g,
        risen p g (edited O.Accepted p) (whole p) p.now p.was (entry_at p (p.generation + 1) ∷ []) (p.spare ∷ p.constants) (p.spare ∷ p.constants) p.generation (p.generation + 1) small g.small,
        le-ltb (p.generation + 1) p.generation (omega arith),
        ne_eqb (p.generation + 1) p.generation (λ e. omega arith),
        eq-eqb (p.generation + 1) (p.generation + 1) refl,
        eqs-refl p.name,
      )
  outcome-is O.ConstantGone =
      compare-is p.now p.was (constants_without p p.generation) (constants_with p p.generation) (whole p) (whole p) (entry_at p p.generation ∷ []) (entry_at p p.generation ∷ []) whole-keyless whole-keyless
      ∙ rw (g.order, g.dated-without p.generation p.generation, g.spare-gone (structs_with p (whole p)) p.generation)
  outcome-is O.FieldGone =
      from_fields p.generation (edited O.FieldGone p) (entry_at p p.generation ∷ []) small (edited-keyless O.FieldGone) ∙ rw (gone p g)
  outcome-is O.FieldMoved =
      from_fields p.generation (edited O.FieldMoved p) (entry_at p p.generation ∷ []) small (edited-keyless O.FieldMoved) ∙ rw (pushed p g)
  outcome-is O.FieldResized =
      from_fields p.generation (edited O.FieldResized p) (entry_at p p.generation ∷ []) small (edited-keyless O.FieldResized) ∙ rw (widened p g)
  outcome-is O.Unraised =
      from_fields p.generation (edited O.Unraised p) (entry_at p p.generation ∷ []) small (edited-keyless O.Unraised)
      ∙ rw (
        grown p g,
        risen p g (edited O.Unraised p) (whole p) p.now p.was (entry_at p p.generation ∷ []) (p.spare ∷ p.constants) (p.spare ∷ p.constants) p.generation p.generation small small,
        le-ltb p.generation p.generation (omega arith),
        eq-eqb p.generation p.generation refl,
        root-touched p g (edited O.Unraised p) (whole p) (grown-differs p g),
      )

pub wanted-number : (p : Plan) (o : Outcome) → verdict_number (wanted o p) ≡ outcome_number o
unfolding wanted outcome_number verdict_number word_number constant_gone field_gone moved resized unraised
wanted-number p O.Accepted = refl
wanted-number p O.ConstantGone = refl
wanted-number p O.FieldGone = refl
wanted-number p O.FieldMoved = refl
wanted-number p O.FieldResized = refl
wanted-number p O.Unraised = refl
