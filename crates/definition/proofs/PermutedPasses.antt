-- A pair of schemas that differs from one that passes in the order of its lists alone passes too. Assumes nothing.
use Rattle.std.specs.Prelude.{Option, Some, None}
use mathlib.Core.Path.{◌≡◌, refl, sym, ◌∙◌, ap, ap₂, subst}
use mathlib.Core.List.Permᴰ
use mathlib.Core.List.{List, [], ◌∷◌, map, Memᴰ, Permᴰ}
use mathlib.Core.Bool.{Bool, true, false, ◌&&◌, ◌||◌, not, cond, false≢true, beq}
use Prim.Native.Nat.{ℕ, ◌+◌, ◌^◌}
use lib.Dec.{eqb, ltb}
use Rattle.record.specs.Base.{Str, eqs, is_some, is_text, or_else, or_option, map_option, find}
use Rattle.record.specs.Schema.{Schema, Value, integer, words, Const, Enum, EnumValue, BitField, Member, Family, Variant, Key, Version}
use Rattle.record.specs.Steps.{constant_in, enum_in, value_in, bitfield_in, member_in}
use Rattle.record.specs.Keys.{plugin_keys}
use Rattle.record.specs.Owner.{types_in}
use Rattle.record.specs.Versioned.{versioned}
use Rattle.record.specs.Generation.{Held}
use Rattle.record.proofs.Basics.{both}
use Rattle.layout.specs.Sorted.{sorted}
use Rattle.layout.specs.Layout.{TypeLayout, types, variant_name}
use Rattle.definition.specs.Verdicts.{Verdict, pass, a_constant, an_enum, a_bitfield, within, a_key, enum_gone, value_gone, renamed, bit_field_gone, member_renamed, member_gone, value_undated, constant_gone, constant_changed, standing_changed, uncovered, no_constant, no_generation, unlisted, leapt, fell, described}
use Rattle.definition.specs.Pass.{◌then◌, ensure, required, each, on_found, empty}
use Rattle.definition.specs.Unreleased.{check_nothing_released}
use Rattle.definition.specs.ReleaseOrder.{check_release_order}
use Rattle.definition.specs.FirstReleases.{constant_release, api_enum, enum_release, value_release, key_release, check_arrival, check_constant_arrival, check_constant_arrivals, check_value_arrival, check_value_arrivals, check_enum_arrival, check_enum_arrivals, check_key_arrival, check_key_arrivals, check_first_releases}
use Rattle.definition.specs.Constants.{constant_text, check_constant, check_constants_in, check_constants}
use Rattle.definition.specs.Enums.{check_value, check_values, check_enum, check_enums}
use Rattle.definition.specs.Bitfields.{check_member, check_members, check_bitfield, check_bitfields}
use Rattle.definition.specs.BitfieldReleases.{bitfield_release, member_release, check_arrived, check_member_arrived, check_members_arrived, check_bitfield_arrived, check_bitfield_releases}
use Rattle.definition.specs.Fields.{check_fields, changed}
use Rattle.definition.specs.Standalone.{variant_names, layouts_of, check_shipped, check_shipped_all, check_standing, check_family, check_standalone}
use Rattle.definition.specs.Coverage.{owning, stands_alone, check_covered, check_all_covered, under, first_under}
use Rattle.definition.specs.Generations.{is_listed, check_still, check_rise, check_from, check_against, check_generation, check_roots, check_generations}
use Rattle.definition.specs.Compare.{pass_list, first_of, compare}
use Rattle.definition.specs.Chain.{NoDup}
use Rattle.definition.specs.Sections.{Shuffled, NoneTwice}
use Rattle.definition.proofs.Passes.{stop≢pass, then-pass, each-pass, never}
use Rattle.definition.proofs.Lists.{perm-eq, shuffled-back}
use Rattle.definition.proofs.LookUps.{exactly, any-shuffled, any-perm, empty-shuffled, FoundAs, OptionRel, neither, both_hold, option-cong, option_map, AtMostOne, find-perm, last-shuffled, last-perm, named-once}
use Rattle.definition.proofs.PermutedSchemas.{PermutedEnum, PermutedBits, PermutedFamily, Permuted, keys-perm, enum-found, bitfield-found, family-found, none-twice, constant-found, constant-last, constants-sorted, versioned-found, generation-found, is-generation, types_same, owner-same}

-- how a pass is put together ----------------------------------------------------------------------------------------------

then-passes : {v w : Verdict} → v ≡ pass → w ≡ pass → (v then w) ≡ pass
unfolding ◌then◌
then-passes e f = rw (e, f)

-- two passes, one after the other: where each of these passes if the other did, so do both
then_mono : (v w v' w' : Verdict) → (v ≡ pass → v' ≡ pass) → (w ≡ pass → w' ≡ pass) → (v then w) ≡ pass → (v' then w') ≡ pass
then_mono v w v' w' f g h = let k = then-pass v w h in then-passes (f k.0) (g k.1)

ensure-mono : (a b : Bool) (v w : Verdict) → a ≡ b → (v ≡ pass → w ≡ pass) → ensure a v ≡ pass → ensure b w ≡ pass
unfolding ensure
ensure-mono a true v w e f h = refl
ensure-mono true false v w e f h = absurd (false≢true (sym e))
ensure-mono false false v w e f h = f h

cond-mono : (a b : Bool) (v v' w w' : Verdict) → a ≡ b → (v ≡ pass → v' ≡ pass) → (w ≡ pass → w' ≡ pass) → cond a v w ≡ pass → cond b v' w' ≡ pass
cond-mono true true v v' w w' e f g h = f h
cond-mono true false v v' w w' e f g h = absurd (false≢true (sym e))
cond-mono false true v v' w w' e f g h = absurd (false≢true e)
cond-mono false false v v' w w' e f g h = g h

module _ {A : Type 0} where
  found-mono : {R : A → A → Type 0} {o q : Option A} (v w : Verdict) (f g : A → Verdict) → OptionRel R o q → (v ≡ pass → w ≡ pass)
      → ((x y : A) → R x y → f x ≡ pass → g y ≡ pass) → on_found o v f ≡ pass → on_found q w g ≡ pass
  unfolding on_found
  found-mono v w f g (neither e k) n h p = rw k (n (rw e at p))
  found-mono v w f g (both_hold {x = x} {y = y} e k r) n h p = rw k (h x y r (rw e at p))

  found-by : {o q : Option A} (v w : Verdict) (f g : A → Verdict) → o ≡ q → (v ≡ pass → w ≡ pass) → ((x : A) → f x ≡ pass → g x ≡ pass)
      → on_found o v f ≡ pass → on_found q w g ≡ pass
  unfolding on_found
  found-by {o} {q} v w f g e n h = subst (λ (u : Option A). on_found o v f ≡ pass → on_found u w g ≡ pass) e (go o)
    where
      go : (u : Option A) → on_found u v f ≡ pass → on_found u w g ≡ pass
      go None p = n p
      go (Some x) p = h x p

  all_pass : (f : A → Verdict) (l : List A) → ((x : A) → Memᴰ x l → f x ≡ pass) → each f l ≡ pass
  unfolding each ◌then◌
  all_pass f [] h = refl
  all_pass f (x ∷ xs) h = rw (h x (Memᴰ.head refl)) (all_pass f xs (λ y m. h y (Memᴰ.tail m)))

  each-shuffled : {R : A → A → Type 0} (f g : A → Verdict) {a b : List A} → Shuffled R a b → ((x y : A) → R x y → f x ≡ pass → g y ≡ pass)
      → each f a ≡ pass → each g b ≡ pass
  each-shuffled f g {a} {b} s h p = all_pass g b (λ y m. let w = shuffled-back s m in h w.0 y w.2 (each-pass f a p w.1))

  each-perm : (f g : A → Verdict) {a b : List A} → Permᴰ a b → ((x : A) → f x ≡ pass → g x ≡ pass) → each f a ≡ pass → each g b ≡ pass
  each-perm f g d h = each-shuffled f g (exactly d) (λ x y e k. subst (λ (z : A). g z ≡ pass) e (h x k))

  each-cong : (f g : A → Verdict) (l : List A) → ((x : A) → f x ≡ g x) → each f l ≡ each g l
  each-cong f g l h i = each (λ (x : A). h x i) l

  -- two tests, of which the second passes at most one
  one-of-both : (p q : A → Bool) (l : List A) → AtMostOne q l → AtMostOne (λ (x : A). p x && q x) l
  one-of-both p q l one x y i j e f = one x y i j (both (p x) (q x) e).1 (both (p y) (q y) f).1

-- what is current in one order and in the other, and what was released ----------------------------------------------------

module _ (c d r q : Schema) (oc : Permuted c d) (or : Permuted r q) (nc : NoneTwice c) (nr : NoneTwice r) where
  -- enums -----------------------------------------------------------------------------------------------------------------

  value_found : (s : Schema) → NoneTwice s → (x y : Enum) → FoundAs PermutedEnum s.enums x y → (n : Str)
      → value_in n x.values ≡ value_in n y.values
  unfolding value_in
  value_found s once x y w n =
      find-perm (λ (v : EnumValue). eqs v.name n) w.0.values (named-once (λ (v : EnumValue). v.name) n y.values (once.values y w.1))

  enums-pass : check_enums c.enums r.enums ≡ pass → check_enums d.enums q.enums ≡ pass
  unfolding check_enums check_enum check_values check_value enum_gone value_gone renamed
  enums-pass = each-shuffled (check_enum c.enums) (check_enum d.enums) or.enums (λ w v s.
      ensure-mono (empty w.values) (empty v.values) _ _ (empty-shuffled w.values v.values (exactly s.values)) (λ h.
      subst (λ (n : Str). on_found (enum_in n d.enums) (enum_gone n) (λ (new : Enum). check_values n new.values v.values) ≡ pass) s.name
      (found-mono _ _ _ _ (enum-found c d oc nc w.name) (λ k. absurd (stop≢pass k)) (λ x y e.
      each-perm (check_value w.name x.values) (check_value w.name y.values) s.values (λ old.
      found-by _ _ _ _ (value_found d (none-twice c d oc nc) x y e old.name) (λ k. absurd (never _ _ _ _ _ k)) (λ new k. k))) h)))

  -- bit fields ------------------------------------------------------------------------------------------------------------

  member-found : (s : Schema) → NoneTwice s → (x y : BitField) → FoundAs PermutedBits s.bitfields x y
      → (n : Str) → member_in n x.members ≡ member_in n y.members
  unfolding member_in
  member-found s once x y w n =
      find-perm (λ (v : Member). eqs v.name n) w.0.members (named-once (λ (v : Member). v.name) n y.members (once.members y w.1))

  bitfields-pass : check_bitfields c.bitfields r.bitfields ≡ pass → check_bitfields d.bitfields q.bitfields ≡ pass
  unfolding check_bitfields check_bitfield check_members check_member bit_field_gone member_gone member_renamed
  bitfields-pass = each-shuffled (check_bitfield c.bitfields) (check_bitfield d.bitfields) or.bitfields (λ w v s h.
      subst (λ (n : Str). on_found (bitfield_in n d.bitfields) (bit_field_gone n) (λ (new : BitField). check_members n new.members v.members) ≡ pass) s.name
      (found-mono _ _ _ _ (bitfield-found c d oc nc w.name) (λ k. absurd (stop≢pass k)) (λ x y e.
      each-perm (check_member w.name x.members) (check_member w.name y.members) s.members (λ old.
      found-by _ _ _ _ (member-found d (none-twice c d oc nc) x y e old.name) (λ k. absurd (never _ _ _ _ _ k)) (λ new k. k))) h))

  -- bit-field releases ----------------------------------------------------------------------------------------------------

  member-released : (n k : Str) → member_release (bitfield_in n r.bitfields) k ≡ member_release (bitfield_in n q.bitfields) k
  unfolding member_release
  member-released n k =
      option-cong (λ (o : Option BitField). member_release o k) (bitfield-found r q or nr n) (λ x y w.
      ap₂ (λ (z : Option Str) (o : Option Member). map_option (λ (m : Member). or_option m.since z) o) w.0.since
      (member-found q (none-twice r q or nr) x y w k))

  bits-released : (n : Str) → bitfield_release (bitfield_in n r.bitfields) ≡ bitfield_release (bitfield_in n q.bitfields)
  unfolding bitfield_release
  bits-released n = option_map (λ (b : BitField). b.since) (bitfield-found r q or nr n) (λ x y w. w.0.since)

  bitfield-releases-pass : (t : Str) → check_bitfield_releases t c.bitfields r.bitfields ≡ pass
      → check_bitfield_releases t d.bitfields q.bitfields ≡ pass
  unfolding check_bitfield_releases check_bitfield_arrived check_members_arrived check_member_arrived
  bitfield-releases-pass t = each-shuffled (check_bitfield_arrived t r.bitfields) (check_bitfield_arrived t q.bitfields) oc.bitfields (λ w v s.
      then_mono _ _ _ _
      (λ h. sym (λ i. check_arrived t (a_bitfield (s.name i)) (required (s.since i))
      ((bits-released w.name ∙ ap (λ (n : Str). bitfield_release (bitfield_in n q.bitfields)) s.name) i)) ∙ h)
      (each-perm _ _ s.members (λ m h.
      sym (λ i. check_arrived t (within (s.name i) m.name) (or_else m.since (required (s.since i)))
      ((member-released w.name m.name ∙ ap (λ (n : Str). member_release (bitfield_in n q.bitfields) m.name) s.name) i)) ∙ h)))

  -- first releases --------------------------------------------------------------------------------------------------------

  constant-released : (n : Str) → constant_release n r.constants ≡ constant_release n q.constants
  unfolding constant_release
  constant-released n =
      ap (map_option (λ (x : Const). x.since)) (last-perm (λ (x : Const). x.api && eqs x.name n) or.constants
      (once r.constants nr.constants) (once q.constants (none-twice r q or nr).constants))
    where
      once : (l : List Const) → NoDup (map (λ (x : Const). x.name) l) → AtMostOne (λ (x : Const). x.api && eqs x.name n) l
      once l k = one-of-both (λ (x : Const). x.api) (λ (x : Const). eqs x.name n) l (named-once (λ (x : Const). x.name) n l k)

  api-found : (n : Str) → OptionRel (FoundAs PermutedEnum q.enums) (api_enum n r.enums) (api_enum n q.enums)
  unfolding api_enum
  api-found n =
      last-shuffled (λ (x : Enum). x.api && eqs x.name n) or.enums (λ x y e i. e.api i && eqs (e.name i) n)
      (once r.enums nr.enums) (once q.enums (none-twice r q or nr).enums)
    where
      once : (l : List Enum) → NoDup (map (λ (x : Enum). x.name) l) → AtMostOne (λ (x : Enum). x.api && eqs x.name n) l
      once l k = one-of-both (λ (x : Enum). x.api) (λ (x : Enum). eqs x.name n) l (named-once (λ (x : Enum). x.name) n l k)

  enum-released : (n : Str) → enum_release (api_enum n r.enums) ≡ enum_release (api_enum n q.enums)
  unfolding enum_release
  enum-released n = option_map (λ (e : Enum). e.since) (api-found n) (λ x y w. w.0.since)

  value-released : (n k : Str) → value_release (api_enum n r.enums) k ≡ value_release (api_enum n q.enums) k
  unfolding value_release
  value-released n k =
      option-cong (λ (o : Option Enum). value_release o k) (api-found n) (λ x y w.
      ap₂ (λ (z : Option Str) (o : Option EnumValue). map_option (λ (m : EnumValue). or_option m.since z) o) w.0.since
      (value_found q (none-twice r q or nr) x y w k))

  key-released : (n : Str) → key_release n (plugin_keys r.structs r.unstored) ≡ key_release n (plugin_keys q.structs q.unstored)
  unfolding key_release
  key-released n =
      ap (map_option (λ (x : Key). x.since)) (last-perm (λ (x : Key). eqs x.name n) (keys-perm r q or)
      (named-once (λ (x : Key). x.name) n (plugin_keys r.structs r.unstored) nr.keys)
      (named-once (λ (x : Key). x.name) n (plugin_keys q.structs q.unstored) (none-twice r q or nr).keys))

  module _ (t : Str) (copy : Option Str) where
    constant-arrivals : check_constant_arrivals t copy c.constants r.constants ≡ pass
        → check_constant_arrivals t copy d.constants q.constants ≡ pass
    unfolding check_constant_arrivals check_constant_arrival
    constant-arrivals = each-perm _ _ oc.constants (λ x h.
        sym (λ i. ensure (not x.api) (on_found x.since pass (λ (names : Str). check_arrival t copy (a_constant x.name) names (constant-released x.name i)))) ∙ h)

    key-arrivals : check_key_arrivals t copy (plugin_keys c.structs c.unstored) (plugin_keys r.structs r.unstored) ≡ pass
        → check_key_arrivals t copy (plugin_keys d.structs d.unstored) (plugin_keys q.structs q.unstored) ≡ pass
    unfolding check_key_arrivals check_key_arrival
    key-arrivals =
        each-perm _ _ (keys-perm c d oc) (λ x h. ap (check_arrival t copy (a_key x.name) (required x.since)) (sym (key-released x.name)) ∙ h)

    value-arrival : (w v : Enum) → PermutedEnum w v → (x : EnumValue)
        → check_value_arrival t copy w.name w.since (api_enum w.name r.enums) x ≡ check_value_arrival t copy v.name v.since (api_enum v.name q.enums) x
    unfolding check_value_arrival
    value-arrival w v s x =
        (λ i. on_found (or_option x.since w.since) pass (λ (release : Str).
        ensure (is_some (value-released w.name x.name i) || is_some x.since || eqs release t) (value_undated w.name x.name t release)
        then check_arrival t copy (within w.name x.name) release (value-released w.name x.name i)))
        ∙ (λ i. check_value_arrival t copy (s.name i) (s.since i) (api_enum (s.name i) q.enums) x)

    enum-arrivals : check_enum_arrivals t copy c.enums r.enums ≡ pass → check_enum_arrivals t copy d.enums q.enums ≡ pass
    unfolding check_enum_arrivals check_enum_arrival check_value_arrivals
    enum-arrivals = each-shuffled (check_enum_arrival t copy r.enums) (check_enum_arrival t copy q.enums) oc.enums (λ w v s.
        ensure-mono (not w.api) (not v.api) _ _ (ap not s.api) (found-by pass pass _ _ s.since (λ k. k) (λ names.
        then_mono _ _ _ _
        (λ h. sym (λ i. check_arrival t copy (an_enum (s.name i)) names
        ((enum-released w.name ∙ ap (λ (n : Str). enum_release (api_enum n q.enums)) s.name) i)) ∙ h)
        (each-perm _ _ s.values (λ x h. sym (value-arrival w v s x) ∙ h)))))

    first-releases-pass : check_first_releases t copy c.constants r.constants c.enums r.enums
        (plugin_keys c.structs c.unstored) (plugin_keys r.structs r.unstored) ≡ pass
        → check_first_releases t copy d.constants q.constants d.enums q.enums
        (plugin_keys d.structs d.unstored) (plugin_keys q.structs q.unstored) ≡ pass
    unfolding check_first_releases
    first-releases-pass = then_mono _ _ _ _ (then_mono _ _ _ _ constant-arrivals enum-arrivals) key-arrivals

  -- constants -------------------------------------------------------------------------------------------------------------

  constants-same : check_constants c.structs c.constants r.constants ≡ check_constants d.structs d.constants q.constants
  unfolding check_constants check_constants_in check_constant
  constants-same =
      ap (each (check_constant c.structs c.constants)) (constants-sorted r q or nr)
      ∙ each-cong (check_constant c.structs c.constants) (check_constant d.structs d.constants) (sorted (λ (x : Const). x.name) q.constants) (λ was i.
      on_found (constant-last c d oc nc was.name i) (constant_gone was.name) (λ (new : Const).
      ensure (is-generation c d oc nc was.name i || eqs (constant_text new.value) (constant_text was.value))
      (constant_changed was.name (constant_text was.value) (constant_text new.value))))

  -- standalone families ---------------------------------------------------------------------------------------------------

  standing-same : (n : Str) (alone : Bool) → check_standing r.families n alone ≡ check_standing q.families n alone
  unfolding check_standing on_found
  standing-same n alone =
      option-cong (λ (o : Option Family). on_found o pass (λ (old : Family). ensure (beq old.standalone alone) (standing_changed n old.standalone alone)))
      (family-found r q or nr n) (λ x y w. ap (λ (b : Bool). ensure (beq b alone) (standing_changed n b alone)) w.0.standalone)

  layout-names : (m n : Family) → PermutedFamily m n → Permᴰ (layouts_of m) (layouts_of n)
  unfolding layouts_of variant_names
  layout-names m n s =
      Permᴰ.cons s.name (Permᴰ.trans (perm-eq (ap (λ (x : Str). map (λ (v : Variant). variant_name x v.disc) m.variants) s.name))
      (Permᴰ.map (λ (v : Variant). variant_name n.name v.disc) s.variants))

  standalone-pass : (is was : List TypeLayout) → check_standalone c.families r.families is was ≡ pass
      → check_standalone d.families q.families is was ≡ pass
  unfolding check_standalone check_family check_shipped_all
  standalone-pass is was = each-shuffled (check_family r.families is was) (check_family q.families is was) oc.families (λ m n s.
      then_mono _ _ _ _ (λ h. ap₂ (check_standing q.families) (sym s.name) (sym s.standalone) ∙ sym (standing-same m.name m.standalone) ∙ h)
      (ensure-mono (not m.standalone) (not n.standalone) _ _ (ap not s.standalone)
      (each-perm (check_shipped is was) (check_shipped is was) (layout-names m n s) (λ x h. h))))

  -- generations -----------------------------------------------------------------------------------------------------------

  stands_same : (n : Str) → stands_alone c.families n ≡ stands_alone d.families n
  unfolding stands_alone
  stands_same n = any-shuffled (λ (m : Family). m.standalone && eqs m.name n) oc.families (λ x y e i. e.standalone i && eqs (e.name i) n)

  covered_same : (ch : List TypeLayout) → check_all_covered (types_in c) ch ≡ check_all_covered (types_in d) ch
  unfolding check_all_covered check_covered
  covered_same ch =
      each-cong (check_covered (types_in c)) (check_covered (types_in d)) ch (λ t i.
      ensure (stands_same (owning t.name) i) (on_found (owner-same c d oc nc (owning t.name) i) (uncovered t.name) (λ (root : Str). pass)))

  touched-same : (ch : List TypeLayout) (root : Str) → first_under (types_in c) ch root ≡ first_under (types_in d) ch root
  unfolding first_under under
  touched-same ch root i =
      map_option (λ (t : TypeLayout). t.name)
      (find (λ (t : TypeLayout). not (stands_same (owning t.name) i) && is_text (owner-same c d oc nc (owning t.name) i) root) ch)

  listed_same : (root : Str) (n : ℕ) → is_listed root n c.versions ≡ is_listed root n d.versions
  unfolding is_listed
  listed_same root n = any-perm (λ (v : Version). eqs v.struct root && eqb v.version n) oc.versions

  module _ (t : Str) (copy : Option Str) where
    rise-same : (touched : Option Str) (root k : Str) (was is : ℕ)
        → check_rise t copy c.versions touched root k was is ≡ check_rise t copy d.versions touched root k was is
    unfolding check_rise
    rise-same touched root k was is i =
        cond (ltb is was) (fell k was is)
        (cond (eqb is was) (check_still touched root k was)
        (cond (eqb is (was + 1)) (ensure (listed_same root is i) (unlisted k is root)) (leapt k was is copy t)))

    against-same : (touched : Option Str) (root k : Str) (is : ℕ) (o : Option Const)
        → check_against t copy c.versions touched root k is o ≡ check_against t copy d.versions touched root k is o
    unfolding check_against
    against-same touched root k is None = refl
    against-same touched root k is (Some x) = go x.value
      where
        go : (v : Value) → check_from t copy c.versions touched root k is v ≡ check_from t copy d.versions touched root k is v
        go (words w) = unfold check_from in refl
        go (integer n) = unfold check_from in ap (λ (v : Verdict). ensure (ltb n (2 ^ 32)) (no_generation k n) then v) (rise-same touched root k n is)

    generations-same : (ch : List TypeLayout)
        → check_generations t copy c.versions (types_in c) c.constants r.constants ch
        ≡ check_generations t copy d.versions (types_in d) d.constants q.constants ch
    unfolding check_generations check_roots check_generation
    generations-same ch =
        ap₂ ◌then◌ (covered_same ch)
        (ap (each (check_generation t copy c.versions c.structs c.constants r.constants (first_under (types_in c) ch))) (versioned-found c d oc nc)
        ∙ each-cong _ (check_generation t copy d.versions d.structs d.constants q.constants (first_under (types_in d) ch)) (versioned d.structs) (λ root i.
        on_found (generation-found c d oc nc root i) (no_constant root) (λ (g : Held). held root g i)))
      where
        held : (root : Str) (g : Held)
            → check_against t copy c.versions (first_under (types_in c) ch root) root g.constant g.number (constant_in g.constant r.constants)
            ≡ check_against t copy d.versions (first_under (types_in d) ch root) root g.constant g.number (constant_in g.constant q.constants)
        held root g =
            against-same (first_under (types_in c) ch root) root g.constant g.number (constant_in g.constant r.constants)
            ∙ (λ i. check_against t copy d.versions (touched-same ch root i) root g.constant g.number (constant-found r q or nr g.constant i))

  -- the whole comparison --------------------------------------------------------------------------------------------------

  unreleased-same : check_nothing_released r.structs r.constants r.enums r.bitfields r.aliases r.families
      ≡ check_nothing_released q.structs q.constants q.enums q.bitfields q.aliases q.families
  unfolding check_nothing_released
  unreleased-same i =
      ensure (empty-shuffled r.structs q.structs (exactly or.structs) i && empty-shuffled r.constants q.constants (exactly or.constants) i
      && empty-shuffled r.enums q.enums or.enums i && empty-shuffled r.bitfields q.bitfields or.bitfields i
      && empty-shuffled r.aliases q.aliases (exactly or.aliases) i && empty-shuffled r.families q.families or.families i) described

  passes_on : first_of (pass_list c r) ≡ pass → first_of (pass_list d q) ≡ pass
  unfolding pass_list first_of
  passes_on =
      then_mono _ _ _ _ (λ h. sym (λ i. check_release_order (now i) (or.release i)) ∙ h)
      (then_mono _ _ _ _ (λ h. sym dated ∙ first-releases-pass (required c.release) r.release h)
      (then_mono _ _ _ _ (λ h. sym constants-same ∙ h)
      (then_mono _ _ _ _ enums-pass
      (then_mono _ _ _ _ bitfields-pass
      (then_mono _ _ _ _ (λ h. subst (λ (t : Str). check_bitfield_releases t d.bitfields q.bitfields ≡ pass) now (bitfield-releases-pass (required c.release) h))
      (then_mono _ _ _ _ (λ h. ap₂ check_fields (sym (types_same c d oc nc)) (sym (types_same r q or nr)) ∙ h)
      (then_mono _ _ _ _ (λ h. ap₂ (check_standalone d.families q.families) (sym (types_same c d oc nc)) (sym (types_same r q or nr))
      ∙ standalone-pass (types c) (types r) h)
      (then_mono _ _ _ _ (λ h. sym generations ∙ h) (λ h. h)))))))))
    where
      now : required c.release ≡ required d.release
      now = ap required oc.release

      dated : check_first_releases (required c.release) r.release d.constants q.constants d.enums q.enums
          (plugin_keys d.structs d.unstored) (plugin_keys q.structs q.unstored)
          ≡ check_first_releases (required d.release) q.release d.constants q.constants d.enums q.enums
          (plugin_keys d.structs d.unstored) (plugin_keys q.structs q.unstored)
      dated = λ i. check_first_releases (now i) (or.release i) d.constants q.constants d.enums q.enums
          (plugin_keys d.structs d.unstored) (plugin_keys q.structs q.unstored)

      generations : check_generations (required c.release) r.release c.versions (types_in c) c.constants r.constants (changed (types c) (types r))
          ≡ check_generations (required d.release) q.release d.versions (types_in d) d.constants q.constants (changed (types d) (types q))
      generations =
          generations-same (required c.release) r.release (changed (types c) (types r))
          ∙ (λ i. check_generations (now i) (or.release i) d.versions (types_in d) d.constants q.constants
          (changed (types_same c d oc nc i) (types_same r q or nr i)))

  -- the pair passes in the one order if it does in the other
  pub compare-on : compare c r ≡ pass → compare d q ≡ pass
  unfolding compare
  compare-on = cond-mono r.unreleased q.unreleased _ _ _ _ or.unreleased (λ h. sym unreleased-same ∙ h) passes_on
