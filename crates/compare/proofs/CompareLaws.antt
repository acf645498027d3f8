-- The passes of a comparison, one by one and in a row, from the code's passes over the lists of two records. Assumes nothing.
use mathlib.Core.Path.{◌≡◌, refl, sym, ap, ap₂, ◌∙◌}
use mathlib.Core.List.{List, [], ◌∷◌}
use mathlib.Core.Bool.{Bool, true, false, cond}
use Prim.Native.Nat.{ℕ, ◌+◌, ◌≤◌, ◌<◌}
use native.Mathlib.Omega.{arith}
use native.Mathlib.Nat.{min-le_left, min_comm}
use lib.ListN.{length, get_or, take, length-take}
use lib.Dec.{leb}
use borrow.Author.Tests.{leb-true}
use Rattle.std.specs.Prelude.{Result, Ok, ⊤, Option}
use Rattle.record.specs.Base.{Str}
use Rattle.record.specs.Stretch.{text_of}
use Rattle.record.specs.Scalars.{Scalar}
use Rattle.record.specs.Lists.{opt_of}
use Rattle.record.specs.Schema.{Schema}
use Rattle.record.specs.Steps.{constants_at, aliases_at, enums_at, bitfields_at, structs_at, families_at, unstored_at, versions_at}
use Rattle.record.specs.Keys.{plugin_keys}
use Rattle.record.specs.References.{types_at}
use Rattle.record.specs.Ends.{IndexedTo}
use Rattle.record.specs.Reading.{Rec, rec, schema_of}
use Rattle.record.specs.declared.ends.Ends.{Ends}
use Rattle.record.specs.declared.text.Text.{Text}
use Rattle.record.proofs.EndLaws.{constants-front, enums-front, bitfields-front}
use Rattle.record.proofs.SchemaLaws.{schema-release, schema-unreleased, schema-constants, schema-aliases, schema-enums, schema-bitfields, schema-structs, schema-families, schema-unstored, schema-versions}
use Rattle.layout.specs.Room.{Room}
use Rattle.layout.specs.Tables.{Tables}
use Rattle.definition.specs.Verdicts as D
use Rattle.definition.specs.Pass.{◌then◌, required}
use Rattle.definition.specs.ReleaseOrder.{check_release_order}
use Rattle.definition.specs.FirstReleases.{check_first_releases}
use Rattle.definition.specs.Constants.{check_constants}
use Rattle.definition.specs.Enums.{check_enums}
use Rattle.definition.specs.Bitfields.{check_bitfields}
use Rattle.definition.specs.BitfieldReleases.{check_bitfield_releases}
use Rattle.definition.specs.Fields.{check_fields}
use Rattle.definition.specs.Standalone.{check_standalone}
use Rattle.definition.specs.Generations.{check_generations}
use Rattle.definition.specs.Unreleased.{check_nothing_released}
use Rattle.definition.specs.Compare.{pass_list, all_passes, pass_at, passes, first_of, compare}
use Rattle.definition.proofs.Compare.{passes-step, no-passes}
use Rattle.verdicts.specs.Meaning.{meaning}
use Rattle.verdicts.specs.declared.verdict.Verdict.{Verdict}
use Rattle.verdicts.proofs.PassLaws.{HandedOn, then-on, then-stop}
use Rattle.compare.specs.Layouts.{types_of}
use Rattle.compare.specs.CoverTable.{changed_types, Changes}
use Rattle.compare.specs.Required.{RequiredText}
use Rattle.compare.specs.Heads.{HeadRelease, HeadUnreleased}
use Rattle.compare.specs.Sought.{UnreleasedFrom}
use Rattle.compare.specs.Passes.{Releases, Prepared, LaidOut}
use Rattle.compare.specs.declared.compare.Facts.{Facts}
use Rattle.compare.specs.declared.shipped.Dates.{Dates}

-- a stream that is cut off needs no more room ----------------------------------------------------------------------------

module _ (r u : Str) (n : ℕ) (f : u ≡ take n r) where
  shorter : length u ≤ length r
  shorter = rw (f, length-take, min_comm) (min-le_left (length r) n)

  pub short_cut : length r ≤ 32768 → length u ≤ 32768
  short_cut h = let e = shorter in omega arith

  pub room_cut : (t : List ℕ) → Room r t → Room u t
  room_cut t h = let e = shorter in omega arith

-- both records made ready --------------------------------------------------------------------------------------------------

pub prepared : (s p b q : Str) (w : List Scalar) (x y : List ℕ) (d : Dates) (is was : Ends) → Releases (rec s p w) (rec b q w) d.current d.copy
    → IndexedTo s p x is → IndexedTo b q y was → Prepared (rec s p w) (rec b q w) x y (record { dates = d; is = is; was = was })
prepared s p b q w x y d is was g f h = record { releases = g; is = f; was = h }

pub laid_both : (s p b q : Str) (w : List Scalar) (t z u y d : List ℕ) (n m : ℕ) → Tables (rec s p w) (take n t) z → Tables (rec b q w) (take m u) y → n ≤ length t → m ≤ length u → Room s d
    → LaidOut (rec s p w) (rec b q w) t z u y d (record { types = n; shipped = m })
laid_both s p b q w t z u y d n m f g i j r = record { laid = record { is = f; was = g }; types-inside = i; shipped-inside = j; cover-room = omega (arith, f.few) }

-- passes in a row --------------------------------------------------------------------------------------------------------

then-assoc : (a b c : D.Verdict) → (a then b then c) ≡ (a then (b then c))
unfolding ◌then◌
then-assoc D.pass b c = refl
then-assoc (D.stop w m) b c = refl

then-none : (a : D.Verdict) → (a then D.pass) ≡ a
unfolding ◌then◌
then-none D.pass = refl
then-none (D.stop w m) = refl

module _ (c r : Schema) where
  passes-first : passes 1 10 c r ≡ (pass_at 1 c r then passes 2 10 c r)
  unfolding passes pass_at all_passes pass_list first_of
  passes-first = refl

  passes-both : passes 2 10 c r ≡ (passes 2 7 c r then passes 7 10 c r)
  unfolding passes all_passes pass_list first_of
  passes-both = simp (then-assoc, then-none)

  -- the passes of each part
  declared-row : (x : D.Verdict) → x ≡ (pass_at 2 c r then (pass_at 3 c r then (pass_at 4 c r then (pass_at 5 c r then pass_at 6 c r)))) → x ≡ passes 2 7 c r
  unfolding passes pass_at all_passes pass_list first_of
  declared-row x h = h ∙ sym (simp then-none)

  laid-row : (x : D.Verdict) → x ≡ (pass_at 7 c r then (pass_at 8 c r then pass_at 9 c r)) → x ≡ passes 7 10 c r
  unfolding passes pass_at all_passes pass_list first_of
  laid-row x h = h ∙ sym (simp then-none)

module _ (p q : Str) (c r : Schema) (a e k : ℕ) (h : passes a e c r ≡ passes k e c r) where
  pub passes-end : e ≤ k → meaning p q (Ok tt) ≡ passes a e c r
  unfolding meaning
  passes-end l = sym (h ∙ no-passes c r k e l)

  module _ (v : Result ⊤ Verdict) (i : meaning p q v ≡ pass_at k c r) (l : k < e) (m : leb e 10 ≡ true) where
    pub passes_on : v ≡ Ok tt → passes a e c r ≡ passes (k + 1) e c r
    unfolding ◌then◌ meaning
    passes_on f =
        h
        ∙ passes-step c r k e l (leb-true e 10 m)
        ∙ ap (λ (x : D.Verdict). x then passes (k + 1) e c r) (sym i ∙ ap (meaning p q) f)

    pub passes-stop : (z : Result ⊤ Verdict) → HandedOn v z → meaning p q z ≡ passes a e c r
    passes-stop z f = then-stop p q (pass_at k c r) (passes (k + 1) e c r) v i z f ∙ sym (h ∙ passes-step c r k e l (leb-true e 10 m))

-- what is declared, then the types
module _ (p q : Str) (c r : Schema) (v : Result ⊤ Verdict) (i : meaning p q v ≡ passes 2 7 c r) where
  pub declared-stop : (z : Result ⊤ Verdict) → HandedOn v z → meaning p q z ≡ passes 2 10 c r
  declared-stop z f = then-stop p q _ _ v i z f ∙ sym (passes-both c r)

  pub declared-on : (u : Result ⊤ Verdict) → v ≡ Ok tt → meaning p q u ≡ passes 7 10 c r → meaning p q u ≡ passes 2 10 c r
  declared-on u f k = then-on p q _ _ v i u f k ∙ sym (passes-both c r)

-- each pass by its number ------------------------------------------------------------------------------------------------

module _ (s p b q : Str) (w : List Scalar) (current : Text) (copy : Option Text) (g : Releases (rec s p w) (rec b q w) current copy) where
  abbrev N : Str
  N = text_of p current

  abbrev C : Option Str
  C = opt_of q copy

  passes-are : all_passes (schema_of (rec s p w)) (schema_of (rec b q w))
      ≡ cond (schema_of (rec b q w)).unreleased (check_nothing_released (structs_at b q 0) (constants_at b q 0) (enums_at b q 0) (bitfields_at b q 0) (aliases_at b q 0) (families_at b q 0)) D.pass
      ∷ check_release_order N C
      ∷ check_first_releases N C (constants_at s p 0) (constants_at b q 0) (enums_at s p 0) (enums_at b q 0) (plugin_keys (structs_at s p 0) (unstored_at s p 0)) (plugin_keys (structs_at b q 0) (unstored_at b q 0))
      ∷ check_constants (structs_at s p 0) (constants_at s p 0) (constants_at b q 0)
      ∷ check_enums (enums_at s p 0) (enums_at b q 0)
      ∷ check_bitfields (bitfields_at s p 0) (bitfields_at b q 0)
      ∷ check_bitfield_releases N (bitfields_at s p 0) (bitfields_at b q 0)
      ∷ check_fields (types_of (rec s p w)) (types_of (rec b q w))
      ∷ check_standalone (families_at s p 0) (families_at b q 0) (types_of (rec s p w)) (types_of (rec b q w))
      ∷ check_generations N C (versions_at s p 0) (types_at s p) (constants_at s p 0) (constants_at b q 0) (changed_types (rec s p w) (rec b q w))
      ∷ []
  unfolding all_passes pass_list
  passes-are =
      rw (sym g.current-is, sym g.copy_is, schema-constants (rec s p w), schema-constants (rec b q w), schema-enums (rec s p w), schema-enums (rec b q w), schema-structs (rec s p w), schema-structs (rec b q w), schema-unstored (rec s p w), schema-unstored (rec b q w), schema-bitfields (rec s p w), schema-bitfields (rec b q w), schema-families (rec s p w), schema-families (rec b q w), schema-versions (rec s p w), schema-aliases (rec b q w))

  module _ (v : Result ⊤ Verdict) where
    at : (k : ℕ) (x : D.Verdict) → get_or (all_passes (schema_of (rec s p w)) (schema_of (rec b q w))) k D.pass ≡ x → meaning p q v ≡ x → meaning p q v ≡ pass_at k (schema_of (rec s p w)) (schema_of (rec b q w))
    unfolding pass_at
    at k x f h = h ∙ sym f

    pub order-at : meaning p q v ≡ check_release_order N C → meaning p q v ≡ pass_at 1 (schema_of (rec s p w)) (schema_of (rec b q w))
    order-at h = at 1 _ (ap (λ (l : List D.Verdict). get_or l 1 D.pass) passes-are) h

    first-releases : meaning p q v ≡ check_first_releases N C (constants_at s p 0) (constants_at b q 0) (enums_at s p 0) (enums_at b q 0) (plugin_keys (structs_at s p 0) (unstored_at s p 0)) (plugin_keys (structs_at b q 0) (unstored_at b q 0))
        → meaning p q v ≡ pass_at 2 (schema_of (rec s p w)) (schema_of (rec b q w))
    first-releases h = at 2 _ (ap (λ (l : List D.Verdict). get_or l 2 D.pass) passes-are) h

    constants : meaning p q v ≡ check_constants (structs_at s p 0) (constants_at s p 0) (constants_at b q 0) → meaning p q v ≡ pass_at 3 (schema_of (rec s p w)) (schema_of (rec b q w))
    constants h = at 3 _ (ap (λ (l : List D.Verdict). get_or l 3 D.pass) passes-are) h

    enums : meaning p q v ≡ check_enums (enums_at s p 0) (enums_at b q 0) → meaning p q v ≡ pass_at 4 (schema_of (rec s p w)) (schema_of (rec b q w))
    enums h = at 4 _ (ap (λ (l : List D.Verdict). get_or l 4 D.pass) passes-are) h

    bitfields : meaning p q v ≡ check_bitfields (bitfields_at s p 0) (bitfields_at b q 0) → meaning p q v ≡ pass_at 5 (schema_of (rec s p w)) (schema_of (rec b q w))
    bitfields h = at 5 _ (ap (λ (l : List D.Verdict). get_or l 5 D.pass) passes-are) h

    bitfield-releases : meaning p q v ≡ check_bitfield_releases N (bitfields_at s p 0) (bitfields_at b q 0) → meaning p q v ≡ pass_at 6 (schema_of (rec s p w)) (schema_of (rec b q w))
    bitfield-releases h = at 6 _ (ap (λ (l : List D.Verdict). get_or l 6 D.pass) passes-are) h

    fields : meaning p q v ≡ check_fields (types_of (rec s p w)) (types_of (rec b q w)) → meaning p q v ≡ pass_at 7 (schema_of (rec s p w)) (schema_of (rec b q w))
    fields h = at 7 _ (ap (λ (l : List D.Verdict). get_or l 7 D.pass) passes-are) h

    standalone : meaning p q v ≡ check_standalone (families_at s p 0) (families_at b q 0) (types_of (rec s p w)) (types_of (rec b q w)) → meaning p q v ≡ pass_at 8 (schema_of (rec s p w)) (schema_of (rec b q w))
    standalone h = at 8 _ (ap (λ (l : List D.Verdict). get_or l 8 D.pass) passes-are) h

    generations : meaning p q v ≡ check_generations N C (versions_at s p 0) (types_at s p) (constants_at s p 0) (constants_at b q 0) (changed_types (rec s p w) (rec b q w))
        → meaning p q v ≡ pass_at 9 (schema_of (rec s p w)) (schema_of (rec b q w))
    generations h = at 9 _ (ap (λ (l : List D.Verdict). get_or l 9 D.pass) passes-are) h

-- the order, then all others
module _ (s p b q : Str) (w : List Scalar) (current : Text) (copy : Option Text) (g : Releases (rec s p w) (rec b q w) current copy) (v : Result ⊤ Verdict)
    (h : meaning p q v ≡ check_release_order (text_of p current) (opt_of q copy)) where
  pub order-stop : (z : Result ⊤ Verdict) → HandedOn v z → meaning p q z ≡ passes 1 10 (schema_of (rec s p w)) (schema_of (rec b q w))
  order-stop z f = then-stop p q _ _ v (order-at s p b q w _ _ g v h) z f ∙ sym (passes-first _ _)

  pub order-on : (u : Result ⊤ Verdict) → v ≡ Ok tt → meaning p q u ≡ passes 2 10 (schema_of (rec s p w)) (schema_of (rec b q w))
      → meaning p q u ≡ passes 1 10 (schema_of (rec s p w)) (schema_of (rec b q w))
  order-on u f k = then-on p q _ _ v (order-at s p b q w _ _ g v h) u f k ∙ sym (passes-first _ _)

-- from a prepared pair, each stream cut off where its list ends
module _ (s p b q : Str) (w : List Scalar) (x y : List ℕ) (f : Facts) (g : Prepared (rec s p w) (rec b q w) x y f) where
  module _ (v : Result ⊤ Verdict) where
    pub first-releases-at :
        meaning p q v
        ≡ check_first_releases (text_of p f.dates.current) (opt_of q f.dates.copy) (constants_at s p 0) (constants_at b q 0) (enums_at s p 0) (enums_at b q 0) (plugin_keys (structs_at s p 0) (unstored_at s p 0)) (plugin_keys (structs_at b q 0) (unstored_at b q 0))
        → meaning p q v ≡ pass_at 2 (schema_of (rec s p w)) (schema_of (rec b q w))
    first-releases-at h = first-releases s p b q w _ _ g.releases v h

    pub constants-at : (u : Str) → u ≡ take f.was.constants b → meaning p q v ≡ check_constants (structs_at s p 0) (constants_at s p 0) (constants_at u q 0)
        → meaning p q v ≡ pass_at 3 (schema_of (rec s p w)) (schema_of (rec b q w))
    constants-at u c h = constants s p b q w _ _ g.releases v (h ∙ ap (check_constants (structs_at s p 0) (constants_at s p 0)) (constants-front b q u f.was g.was.ends c))

    pub enums-at : (u : Str) → u ≡ take f.was.enums b → meaning p q v ≡ check_enums (enums_at s p 0) (enums_at u q 0) → meaning p q v ≡ pass_at 4 (schema_of (rec s p w)) (schema_of (rec b q w))
    enums-at u c h = enums s p b q w _ _ g.releases v (h ∙ ap (check_enums (enums_at s p 0)) (enums-front b q u f.was g.was.ends c))

    module _ (t u : Str) (c : t ≡ take f.is.bitfields s) (d : u ≡ take f.was.bitfields b) where
      pub bitfields-at : meaning p q v ≡ check_bitfields (bitfields_at t p 0) (bitfields_at u q 0) → meaning p q v ≡ pass_at 5 (schema_of (rec s p w)) (schema_of (rec b q w))
      bitfields-at h = bitfields s p b q w _ _ g.releases v (h ∙ ap₂ check_bitfields (bitfields-front s p t f.is g.is.ends c) (bitfields-front b q u f.was g.was.ends d))

      pub bitfield-releases-at : meaning p q v ≡ check_bitfield_releases (text_of p f.dates.current) (bitfields_at t p 0) (bitfields_at u q 0) → meaning p q v ≡ pass_at 6 (schema_of (rec s p w)) (schema_of (rec b q w))
      bitfield-releases-at h =
          bitfield-releases s p b q w _ _ g.releases v
          (h ∙ ap₂ (check_bitfield_releases (text_of p f.dates.current)) (bitfields-front s p t f.is g.is.ends c) (bitfields-front b q u f.was g.was.ends d))

    -- over the types
    pub fields-at : meaning p q v ≡ check_fields (types_of (rec s p w)) (types_of (rec b q w)) → meaning p q v ≡ pass_at 7 (schema_of (rec s p w)) (schema_of (rec b q w))
    fields-at h = fields s p b q w _ _ g.releases v h

    pub standalone-at : meaning p q v ≡ check_standalone (families_at s p 0) (families_at b q 0) (types_of (rec s p w)) (types_of (rec b q w)) → meaning p q v ≡ pass_at 8 (schema_of (rec s p w)) (schema_of (rec b q w))
    standalone-at h = standalone s p b q w _ _ g.releases v h

    pub generations-at : (l m : List ℕ) → Changes (rec s p w) (rec b q w) l m
        → ((w₀ : List Scalar) → Changes (rec s p w₀) (rec b q w₀) l m
        → meaning p q v ≡ check_generations (text_of p f.dates.current) (opt_of q f.dates.copy) (versions_at s p 0) (types_at s p) (constants_at s p 0) (constants_at b q 0) (changed_types (rec s p w₀) (rec b q w₀)))
        → meaning p q v ≡ pass_at 9 (schema_of (rec s p w)) (schema_of (rec b q w))
    generations-at l m c h = generations s p b q w _ _ g.releases v (h w c)

-- the passes over what is declared outside types, one after the other
module _ (s p b q : Str) (w : List Scalar) (x y : List ℕ) (f : Facts) (g : Prepared (rec s p w) (rec b q w) x y f) (v₂ : Result ⊤ Verdict)
    (h₂ : meaning p q v₂
    ≡ check_first_releases (text_of p f.dates.current) (opt_of q f.dates.copy) (constants_at s p 0) (constants_at b q 0) (enums_at s p 0) (enums_at b q 0) (plugin_keys (structs_at s p 0) (unstored_at s p 0)) (plugin_keys (structs_at b q 0) (unstored_at b q 0))) where
  second : meaning p q v₂ ≡ pass_at 2 (schema_of (rec s p w)) (schema_of (rec b q w))
  second = first-releases-at s p b q w x y f g v₂ h₂

  pub second-stops : (z : Result ⊤ Verdict) → HandedOn v₂ z → meaning p q z ≡ passes 2 7 (schema_of (rec s p w)) (schema_of (rec b q w))
  second-stops z e = declared-row _ _ _ (then-stop p q _ _ v₂ second z e)

  module _ (o₂ : v₂ ≡ Ok tt) (v₃ : Result ⊤ Verdict) (u₃ : Str) (c₃ : u₃ ≡ take f.was.constants b) (h₃ : meaning p q v₃ ≡ check_constants (structs_at s p 0) (constants_at s p 0) (constants_at u₃ q 0)) where
    third : meaning p q v₃ ≡ pass_at 3 (schema_of (rec s p w)) (schema_of (rec b q w))
    third = constants-at s p b q w x y f g v₃ u₃ c₃ h₃

    pub third-stops : (z : Result ⊤ Verdict) → HandedOn v₃ z → meaning p q z ≡ passes 2 7 (schema_of (rec s p w)) (schema_of (rec b q w))
    third-stops z e = declared-row _ _ _ (then-on p q _ _ v₂ second z o₂ (then-stop p q _ _ v₃ third z e))

    module _ (o₃ : v₃ ≡ Ok tt) (v₄ : Result ⊤ Verdict) (u₄ : Str) (c₄ : u₄ ≡ take f.was.enums b) (h₄ : meaning p q v₄ ≡ check_enums (enums_at s p 0) (enums_at u₄ q 0)) where
      fourth : meaning p q v₄ ≡ pass_at 4 (schema_of (rec s p w)) (schema_of (rec b q w))
      fourth = enums-at s p b q w x y f g v₄ u₄ c₄ h₄

      pub fourth-stops : (z : Result ⊤ Verdict) → HandedOn v₄ z → meaning p q z ≡ passes 2 7 (schema_of (rec s p w)) (schema_of (rec b q w))
      fourth-stops z e = declared-row _ _ _ (then-on p q _ _ v₂ second z o₂ (then-on p q _ _ v₃ third z o₃ (then-stop p q _ _ v₄ fourth z e)))

      module _ (o₄ : v₄ ≡ Ok tt) (v₅ : Result ⊤ Verdict) (t u : Str) (c₅ : t ≡ take f.is.bitfields s) (d₅ : u ≡ take f.was.bitfields b) (h₅ : meaning p q v₅ ≡ check_bitfields (bitfields_at t p 0) (bitfields_at u q 0)) where
        fifth : meaning p q v₅ ≡ pass_at 5 (schema_of (rec s p w)) (schema_of (rec b q w))
        fifth = bitfields-at s p b q w x y f g v₅ t u c₅ d₅ h₅

        pub fifth-stops : (z : Result ⊤ Verdict) → HandedOn v₅ z → meaning p q z ≡ passes 2 7 (schema_of (rec s p w)) (schema_of (rec b q w))
        fifth-stops z e = declared-row _ _ _ (then-on p q _ _ v₂ second z o₂ (then-on p q _ _ v₃ third z o₃ (then-on p q _ _ v₄ fourth z o₄ (then-stop p q _ _ v₅ fifth z e))))

        pub sixth-ends : (v₆ : Result ⊤ Verdict) → v₅ ≡ Ok tt → meaning p q v₆ ≡ check_bitfield_releases (text_of p f.dates.current) (bitfields_at t p 0) (bitfields_at u q 0) → meaning p q v₆ ≡ passes 2 7 (schema_of (rec s p w)) (schema_of (rec b q w))
        sixth-ends v₆ o₅ h₆ =
            declared-row _ _ _
            (then-on p q _ _ v₂ second v₆ o₂ (then-on p q _ _ v₃ third v₆ o₃ (then-on p q _ _ v₄ fourth v₆ o₄ (then-on p q _ _ v₅ fifth v₆ o₅ (bitfield-releases-at s p b q w x y f g v₆ t u c₅ d₅ h₆)))))

-- the passes over the types, one after the other; that over the fields notes which changed
module _ (s p b q : Str) (w : List Scalar) (x y : List ℕ) (f : Facts) (g : Prepared (rec s p w) (rec b q w) x y f) (v₇ : Result ⊤ Verdict)
    (h₇ : meaning p q v₇ ≡ check_fields (types_of (rec s p w)) (types_of (rec b q w))) where
  seventh : meaning p q v₇ ≡ pass_at 7 (schema_of (rec s p w)) (schema_of (rec b q w))
  seventh = fields-at s p b q w x y f g v₇ h₇

  pub seventh-stops : (z : Result ⊤ Verdict) → HandedOn v₇ z → meaning p q z ≡ passes 7 10 (schema_of (rec s p w)) (schema_of (rec b q w))
  seventh-stops z e = laid-row _ _ _ (then-stop p q _ _ v₇ seventh z e)

  module _ (o₇ : v₇ ≡ Ok tt) (v₈ : Result ⊤ Verdict) (h₈ : meaning p q v₈ ≡ check_standalone (families_at s p 0) (families_at b q 0) (types_of (rec s p w)) (types_of (rec b q w))) where
    eighth : meaning p q v₈ ≡ pass_at 8 (schema_of (rec s p w)) (schema_of (rec b q w))
    eighth = standalone-at s p b q w x y f g v₈ h₈

    pub eighth-stops : (z : Result ⊤ Verdict) → HandedOn v₈ z → meaning p q z ≡ passes 7 10 (schema_of (rec s p w)) (schema_of (rec b q w))
    eighth-stops z e = laid-row _ _ _ (then-on p q _ _ v₇ seventh z o₇ (then-stop p q _ _ v₈ eighth z e))

    pub ninth-ends : (v₉ : Result ⊤ Verdict) (l m : List ℕ) → v₈ ≡ Ok tt → (v₇ ≡ Ok tt → Changes (rec s p w) (rec b q w) l m)
        → ((w₀ : List Scalar) → Changes (rec s p w₀) (rec b q w₀) l m
        → meaning p q v₉ ≡ check_generations (text_of p f.dates.current) (opt_of q f.dates.copy) (versions_at s p 0) (types_at s p) (constants_at s p 0) (constants_at b q 0) (changed_types (rec s p w₀) (rec b q w₀)))
        → meaning p q v₉ ≡ passes 7 10 (schema_of (rec s p w)) (schema_of (rec b q w))
    ninth-ends v₉ l m o₈ c h₉ = laid-row _ _ _ (then-on p q _ _ v₇ seventh v₉ o₇ (then-on p q _ _ v₈ eighth v₉ o₈ (generations-at s p b q w x y f g v₉ l m (c o₇) h₉)))

-- the whole --------------------------------------------------------------------------------------------------------------

module _ (cur rel : Rec) where
  abbrev S : Schema
  S = schema_of cur

  abbrev T : Schema
  T = schema_of rel

  pub releases : (t : Text) (o copy : Option Text) → HeadRelease cur.stream o → RequiredText o t → HeadRelease rel.stream copy → Releases cur rel t copy
  releases t o copy ho ht hc = record {
    current-is = ht.this cur.pool ∙ ap required (ho.this cur.pool ∙ sym (schema-release cur));
    copy_is = hc.this rel.pool ∙ sym (schema-release rel);
  }

  module _ (b : Bool) (u : HeadUnreleased rel.stream b) where
    flag_is : T.unreleased ≡ b
    flag_is = schema-unreleased rel ∙ sym (u.this rel.pool)

    pub compared-unreleased : (p : Str) (v : Result ⊤ Verdict) → b ≡ true → UnreleasedFrom rel.stream v → meaning p rel.pool v ≡ compare S T
    unfolding compare
    compared-unreleased p v e h =
        h.this p rel.pool
        ∙ sym (rw (flag_is ∙ e, schema-structs rel, schema-constants rel, schema-enums rel, schema-bitfields rel, schema-aliases rel, schema-families rel))

    pub compared : (v : Result ⊤ Verdict) → b ≡ false → meaning cur.pool rel.pool v ≡ passes 1 10 S T → meaning cur.pool rel.pool v ≡ compare S T
    unfolding compare passes all_passes pass_list
    compared v e h = h ∙ sym (rw (flag_is ∙ e))
