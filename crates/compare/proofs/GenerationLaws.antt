-- The cases of the pass over the generations. s and p are the current stream and pool, b and q the released ones, t and m the tables of the
-- current types and of what covers them. Assumes nothing.
use mathlib.Core.Path.{◌≡◌, refl, sym, ap, ap₂, ◌∙◌}
use mathlib.Core.List.{List, []}
use mathlib.Core.Bool.{Bool, true, false, ◌&&◌}
use Prim.Native.Nat.{ℕ, ◌+◌, ◌-◌, ◌^◌, ◌≤◌, ◌<◌}
use native.Mathlib.Omega.{arith}
use lib.Dec.{eqb}
use borrow.Author.Tests.{eq-eqb, ne_eqb, lt-ltb, le-ltb}
use Rattle.std.specs.Prelude.{Result, Ok, Err, ⊤, Option, Some, None}
use Rattle.record.specs.Base.{Str, eqs}
use Rattle.record.specs.Schema as M
use Rattle.record.specs.Schema.{Const, Struct}
use Rattle.record.specs.Stretch.{text_of}
use Rattle.record.specs.Commands.{start}
use Rattle.record.specs.Lists.{opt_of, constant_of}
use Rattle.record.specs.Steps.{structs_at, struct_found, constants_at, constant_in, constant_found, versions_at, VersionsFrom}
use Rattle.record.specs.Owner.{with_name}
use Rattle.record.specs.References.{types_at}
use Rattle.record.specs.Scalars.{Scalar}
use Rattle.record.specs.Reading.{rec}
use Rattle.record.specs.Versioned.{versioned, InSlots}
use Rattle.record.specs.Generation.{generation_of, held_as}
use Rattle.record.specs.declared.text.Text.{Text}
use Rattle.record.specs.declared.command as C
use Rattle.record.specs.declared.command.Cursor.{Cursor}
use Rattle.record.specs.declared.command.Version.{Version}
use Rattle.record.specs.declared.command.Constant.{Constant}
use Rattle.record.specs.declared.versioned.Versioned.{Versioned}
use Rattle.record.proofs.StepLaws.{versions-over-now, versions-now}
use Rattle.record.proofs.VersionedLaws.{versioned-are-roots}
use Rattle.layout.specs.Names.{name_of, stretches_of}
use Rattle.layout.specs.Table.{TypesTable}
use Rattle.layout.specs.declared.names.TypeName.{TypeName}
use Rattle.layout.proofs.NameLaws.{stretches-read}
use Rattle.definition.specs.Verdicts as D
use Rattle.definition.specs.Verdicts.{no_generation, unraised}
use Rattle.definition.specs.Pass.{◌then◌, ensure, each, on_found}
use Rattle.definition.specs.Generations.{is_listed, check_still, check_rise, check_from, check_against, check_generation, check_roots, check_generations}
use Rattle.compare.specs.CoverTable.{changed_types, Changes, Entered, first_uncovered, first_touched, touched_name, touched_by}
use Rattle.verdicts.specs.Meaning.{violation, meaning}
use Rattle.verdicts.specs.declared.verdict.Verdict.{Verdict}
use Rattle.verdicts.specs.declared.verdict.Verdict.TheVariants.{NoConstant, NoGeneration, Unraised, Unlisted, Leapt, Fell}
use Rattle.verdicts.proofs.PassLaws.{HandedOn, stays}
use Rattle.compare.proofs.AnyLaws.{any-end, any-hit, any-miss}
use Rattle.compare.proofs.CoverTableLaws.{cover-filled, covered-table, touched-table}
use Rattle.record.specs.Commands.{Step}

-- version entries ---------------------------------------------------------------------------------------------------------

module _ (s p root : Str) (n : ℕ) where
  pub listed-begin : (z : Cursor) → z ≡ start → is_listed root n (versions_at s p 0) ≡ is_listed root n (versions_at s p z.at)
  listed-begin z y = ap (λ (c : Cursor). is_listed root n (versions_at s p c.at)) (sym y)

  module _ (at : ℕ) (r : Step C.Version.Version) (f : VersionsFrom s at r) where
    abbrev test : M.Version → Bool
    test v = eqs v.struct root && eqb v.version n

    pub listed-end : r ≡ None → is_listed root n (versions_at s p at) ≡ false
    unfolding is_listed
    listed-end m = any-end test _ (versions-over-now s at r f p m)

    module _ (e : Version) (k : Cursor) (b : Bool) (m : r ≡ Some (e, k)) (h : b ≡ (eqs (text_of p e.struct_name) root && eqb e.version n)) where
      pub listed-hit : b ≡ true → is_listed root n (versions_at s p at) ≡ true
      unfolding is_listed
      listed-hit t = any-hit test _ _ _ (versions-now s at r f p e k m) (sym h ∙ t)

      pub listed-miss : b ≡ false → is_listed root n (versions_at s p at) ≡ is_listed root n (versions_at s p k.at)
      unfolding is_listed
      listed-miss t = any-miss test _ _ _ (versions-now s at r f p e k m) (sym h ∙ t)

pub ruleset listed-laws = (listed-end, listed-hit, listed-miss)

-- one number --------------------------------------------------------------------------------------------------------------

module _ (s p q : Str) (t m : List ℕ) (root k : Text) (was : ℕ) (x : Str) (r : Option ℕ) (e : x ≡ text_of p root) (f : r ≡ first_touched p t m x) where
  touched-is : touched_by s p t m (text_of p root) ≡ touched_name s p r
  unfolding touched_by
  touched-is = ap (touched_name s p) (ap (first_touched p t m) (sym e) ∙ sym f)

  pub still-none : r ≡ None → meaning p q (Ok tt) ≡ check_still (touched_by s p t m (text_of p root)) (text_of p root) (text_of p k) was
  unfolding meaning check_still on_found
  still-none g = rw (touched-is, g)

  pub still-changed : (h n : ℕ) (y : TypeName) → r ≡ Some h → y ≡ stretches_of s h → n ≡ was
      → meaning p q (Err (Unraised root was y k (n + 1))) ≡ check_still (touched_by s p t m (text_of p root)) (text_of p root) (text_of p k) was
  unfolding meaning violation check_still on_found
  still-changed h n y g i j =
      rw (touched-is, g, j) (ap (λ (z : Str). unraised (text_of p root) was z (text_of p k) (was + 1)) (ap (name_of p) i ∙ stretches-read s p h))

pub ruleset still-laws = (still-none, still-changed)

module _ (p q now : Str) (copy : Option Str) (vs : List M.Version) (touched : Option Str) (root : Str) (k : Text) (was is : ℕ) where
  pub rise-fell : is < was → meaning p q (Err (Fell k was is)) ≡ check_rise now copy vs touched root (text_of p k) was is
  unfolding meaning violation check_rise
  rise-fell h = rw (lt-ltb is was h)

  pub rise-still : (v : Result ⊤ Verdict) → was ≤ is → is ≡ was → ((o : Str) → meaning p o v ≡ check_still touched root (text_of p k) was)
      → meaning p q v ≡ check_rise now copy vs touched root (text_of p k) was is
  unfolding check_rise
  rise-still v h e g = rw (le-ltb is was h, eq-eqb is was e) (g q)

module _ (p q : Str) (vs : List M.Version) (touched : Option Str) (k : Text) (was is : ℕ) (h : was ≤ is) (e : is ≡ was → ⊥) where
  pub rise-leapt : (current : Text) (copy : Option Text) (root : Str) → (is - was ≡ 1 → ⊥)
      → meaning p q (Err (Leapt k was is copy current)) ≡ check_rise (text_of p current) (opt_of q copy) vs touched root (text_of p k) was is
  unfolding meaning violation check_rise
  rise-leapt current copy root f = rw (le-ltb is was h, ne_eqb is was e, ne_eqb is (was + 1) (λ g. f (omega arith)))

  module _ (now : Str) (copy : Option Str) (root : Text) (f : is - was ≡ 1) (x : Str) (b : Bool) (g : x ≡ text_of p root) (l : b ≡ is_listed x is vs) where
    listed-so : b ≡ is_listed (text_of p root) is vs
    listed-so = l ∙ ap (λ (y : Str). is_listed y is vs) g

    one_more : is ≡ was + 1
    one_more = omega arith

    pub rise-listed : b ≡ true → meaning p q (Ok tt) ≡ check_rise now copy vs touched (text_of p root) (text_of p k) was is
    unfolding meaning check_rise ensure
    rise-listed i = rw (le-ltb is was h, ne_eqb is was e, eq-eqb is (was + 1) one_more, ← listed-so, i)

    pub rise-unlisted : b ≡ false → meaning p q (Err (Unlisted k is root)) ≡ check_rise now copy vs touched (text_of p root) (text_of p k) was is
    unfolding meaning violation check_rise ensure
    rise-unlisted i = rw (le-ltb is was h, ne_eqb is was e, eq-eqb is (was + 1) one_more, ← listed-so, i)

pub ruleset rise-laws = (rise-fell, rise-still, rise-leapt, rise-listed, rise-unlisted)

module _ (p q now : Str) (copy : Option Text) (vs : List M.Version) (touched : Option Str) (root : Str) (k : Text) (is : ℕ) (c : Constant) where
  pub from-text : c.is_text ≡ true → meaning p q (Ok tt) ≡ check_from now (opt_of q copy) vs touched root (text_of p k) is (constant_of q c).value
  unfolding meaning check_from
  from-text h = rw h

  pub from-large : c.is_text ≡ false → 4294967296 ≤ c.integer
      → meaning p q (Err (NoGeneration k c.integer)) ≡ check_from now (opt_of q copy) vs touched root (text_of p k) is (constant_of q c).value
  unfolding meaning violation check_from ensure no_generation ◌then◌
  from-large h u = rw (h, le-ltb c.integer (2 ^ 32) u)

  pub from-rise : (v : Result ⊤ Verdict) → c.is_text ≡ false → c.integer < 4294967296
      → ((o : Str) → meaning p o v ≡ check_rise now (opt_of o copy) vs touched root (text_of p k) c.integer is)
      → meaning p q v ≡ check_from now (opt_of q copy) vs touched root (text_of p k) is (constant_of q c).value
  unfolding check_from ensure ◌then◌
  from-rise v h u g = rw (h, lt-ltb c.integer (2 ^ 32) u) (g q)

pub ruleset from-laws = (from-text, from-large, from-rise)

-- one root ----------------------------------------------------------------------------------------------------------------

module _ (p b q now : Str) (copy : Option Text) (vs : List M.Version) (touched : Option Str) (root : Str) (k : Text) (is : ℕ) (x : Str) (r : Step C.Constant.Constant)
    (e : x ≡ text_of p k) (l : constant_in x (constants_at b q 0) ≡ constant_found b q r) where
  found : constant_in (text_of p k) (constants_at b q 0) ≡ constant_found b q r
  found = rw e at l

  pub against-none : r ≡ None → meaning p q (Ok tt) ≡ check_against now (opt_of q copy) vs touched root (text_of p k) is (constant_in (text_of p k) (constants_at b q 0))
  unfolding meaning check_against
  against-none o = rw (found, o)

  pub against-from : (c : Constant) (n : Cursor) (v : Result ⊤ Verdict) → r ≡ Some (c, n)
      → ((o : Str) → meaning p o v ≡ check_from now (opt_of o copy) vs touched root (text_of p k) is (constant_of o c).value)
      → meaning p q v ≡ check_against now (opt_of q copy) vs touched root (text_of p k) is (constant_in (text_of p k) (constants_at b q 0))
  unfolding check_against
  against-from c n v o a = rw (found, o) (a q)

pub ruleset against-laws = (against-none, against-from)

module _ (s p q now : Str) (copy : Option Str) (vs : List M.Version) (cs₀ : List Const) (t m : List ℕ) (root : Text) (x : Str) (g : Option (Text × ℕ)) (e : x ≡ text_of p root)
    (h : held_as p g ≡ generation_of (structs_at s p 0) (constants_at s p 0) x) where
  gives : generation_of (structs_at s p 0) (constants_at s p 0) (text_of p root) ≡ held_as p g
  gives = ap (generation_of (structs_at s p 0) (constants_at s p 0)) (sym e) ∙ sym h

  generation-none : g ≡ None
      → meaning p q (Err (NoConstant root)) ≡ check_generation now copy vs (structs_at s p 0) (constants_at s p 0) cs₀ (touched_by s p t m) (text_of p root)
  unfolding meaning violation check_generation on_found
  generation-none i = rw (gives, i)

  generation-held : (k : Text) (is : ℕ) (v : Result ⊤ Verdict) → g ≡ Some (k, is)
      → meaning p q v ≡ check_against now copy vs (touched_by s p t m (text_of p root)) (text_of p root) (text_of p k) is (constant_in (text_of p k) cs₀)
      → meaning p q v ≡ check_generation now copy vs (structs_at s p 0) (constants_at s p 0) cs₀ (touched_by s p t m) (text_of p root)
  unfolding check_generation on_found
  generation-held k is v i a = rw (gives, i) a

-- the roots ---------------------------------------------------------------------------------------------------------------

then-pass : (v : D.Verdict) → (v then D.pass) ≡ v
unfolding ◌then◌
then-pass D.pass = refl
then-pass (D.stop w m) = refl

module _ (s p q now : Str) (copy : Option Str) (vs : List M.Version) (ss : List Struct) (cs cs₀ : List Const) (touched : Str → Option Str) where
  abbrev all : List Str → D.Verdict
  all = check_roots now copy vs ss cs cs₀ touched

  module _ (r : Step C.Struct.Struct) where
    pub slot-none : r ≡ None → meaning p q (Ok tt) ≡ check_roots now copy vs ss cs cs₀ touched (with_name (struct_found s p r) [])
    unfolding meaning check_roots with_name each
    slot-none e = rw e

    slot-root : (e : C.Struct.Struct) (k : Cursor) (v : Result ⊤ Verdict) → r ≡ Some (e, k) → meaning p q v ≡ check_generation now copy vs ss cs cs₀ touched (text_of p e.name)
        → meaning p q v ≡ check_roots now copy vs ss cs cs₀ touched (with_name (struct_found s p r) [])
    unfolding check_roots with_name each
    slot-root e k v f g = rw f (g ∙ sym (then-pass (check_generation now copy vs ss cs cs₀ touched (text_of p e.name))))

  slot-then : (o : Option Struct) (l : List Str) → all (with_name o l) ≡ (all (with_name o []) then all l)
  unfolding check_roots with_name each ◌then◌
  slot-then None l = refl
  slot-then (Some x) l = ap (λ (v : D.Verdict). v then all l) (sym (then-pass (check_generation now copy vs ss cs cs₀ touched x.name)))

-- the root in a slot
module _ (s p q now : Str) (copy : Option Str) (vs : List M.Version) (cs₀ : List Const) (t m : List ℕ) (r : Step C.Struct.Struct) (e : C.Struct.Struct) (k : Cursor) (f : r ≡ Some (e, k))
    (x : Str) (g : Option (Text × ℕ)) (i : x ≡ text_of p e.name) (h : held_as p g ≡ generation_of (structs_at s p 0) (constants_at s p 0) x) where
  pub slot-unheld : g ≡ None
      → meaning p q (Err (NoConstant e.name)) ≡ check_roots now copy vs (structs_at s p 0) (constants_at s p 0) cs₀ (touched_by s p t m) (with_name (struct_found s p r) [])
  slot-unheld j =
      slot-root s p q now copy vs (structs_at s p 0) (constants_at s p 0) cs₀ (touched_by s p t m) r e k (Err (NoConstant e.name)) f
      (generation-none s p q now copy vs cs₀ t m e.name x g i h j)

  pub slot_held : (l : Text) (is : ℕ) (v : Result ⊤ Verdict) → g ≡ Some (l, is)
      → meaning p q v ≡ check_against now copy vs (touched_by s p t m (text_of p e.name)) (text_of p e.name) (text_of p l) is (constant_in (text_of p l) cs₀)
      → meaning p q v ≡ check_roots now copy vs (structs_at s p 0) (constants_at s p 0) cs₀ (touched_by s p t m) (with_name (struct_found s p r) [])
  slot_held l is v j a =
      slot-root s p q now copy vs (structs_at s p 0) (constants_at s p 0) cs₀ (touched_by s p t m) r e k v f
      (generation-held s p q now copy vs cs₀ t m e.name x g i h l is v j a)

pub ruleset slot_laws = (slot-none, slot-unheld, slot_held)

module _ (s p q now : Str) (copy : Option Str) (vs : List M.Version) (cs cs₀ : List Const) (touched : Str → Option Str) (r : Versioned) (i : InSlots s p r) (a : Result ⊤ Verdict) where
  abbrev among : List Str → D.Verdict
  among = check_roots now copy vs (structs_at s p 0) cs cs₀ touched

  abbrev only : Step C.Struct.Struct → D.Verdict
  only x = check_roots now copy vs (structs_at s p 0) cs cs₀ touched (with_name (struct_found s p x) [])

  in_order : among (versioned (structs_at s p 0)) ≡ (only r.info then (only r.metadata then only r.runtime))
  in_order =
      ap among (sym (versioned-are-roots s p r i))
      ∙ slot-then s p q now copy vs (structs_at s p 0) cs cs₀ touched (struct_found s p r.info) _
      ∙ ap (λ (v : D.Verdict). only r.info then v) (slot-then s p q now copy vs (structs_at s p 0) cs cs₀ touched (struct_found s p r.metadata) _)

  module _ (f : meaning p q a ≡ only r.info) where
    pub roots-first : (z : Result ⊤ Verdict) → HandedOn a z → meaning p q z ≡ check_roots now copy vs (structs_at s p 0) cs cs₀ touched (versioned (structs_at s p 0))
    roots-first z h = sym (in_order ∙ ap (λ (v : D.Verdict). v then (only r.metadata then only r.runtime)) (sym f) ∙ stays p q a z (only r.metadata then only r.runtime) h)

    module _ (h : a ≡ Ok tt) (b : Result ⊤ Verdict) (g : meaning p q b ≡ only r.metadata) where
      after_first : among (versioned (structs_at s p 0)) ≡ (meaning p q b then only r.runtime)
      unfolding meaning ◌then◌
      after_first =
          in_order ∙ ap (λ (v : D.Verdict). v then (only r.metadata then only r.runtime)) (sym f ∙ ap (meaning p q) h)
          ∙ ap (λ (v : D.Verdict). v then only r.runtime) (sym g)

      pub roots-second : (z : Result ⊤ Verdict) → HandedOn b z → meaning p q z ≡ check_roots now copy vs (structs_at s p 0) cs cs₀ touched (versioned (structs_at s p 0))
      roots-second z j = sym (after_first ∙ stays p q b z (only r.runtime) j)

      pub roots-third : (c : Result ⊤ Verdict) → b ≡ Ok tt → meaning p q c ≡ only r.runtime
          → meaning p q c ≡ check_roots now copy vs (structs_at s p 0) cs cs₀ touched (versioned (structs_at s p 0))
      unfolding meaning ◌then◌
      roots-third c j k = k ∙ sym (after_first ∙ ap (λ (v : Result ⊤ Verdict). meaning p q v then only r.runtime) j)

pub ruleset roots-laws = (roots-first, roots-second, roots-third)

-- the pass ----------------------------------------------------------------------------------------------------------------

module _ (p q : Str) (f v : Result ⊤ Verdict) (x : D.Verdict) (e : v ≡ f) where
  pub filled-stop : (z : Result ⊤ Verdict) → HandedOn v z → meaning p q z ≡ (meaning p q f then x)
  filled-stop z h = sym (ap (λ (y : Result ⊤ Verdict). meaning p q y then x) (sym e) ∙ stays p q v z x h)

  pub filled_on : (u : Result ⊤ Verdict) → v ≡ Ok tt → meaning p q u ≡ x → meaning p q u ≡ (meaning p q f then x)
  unfolding meaning ◌then◌
  filled_on u h g = g ∙ ap (λ (y : Result ⊤ Verdict). meaning p q y then x) (sym h ∙ e)

pub ruleset filled-laws = (filled-stop, filled_on)

pub generations-are : (s p b q now : Str) (copy : Option Str) (vs : List M.Version) (cs cs₀ : List Const) (w : List Scalar) (t l m : List ℕ) (v : Result ⊤ Verdict) → TypesTable s p t
    → Entered s p t l m
    → meaning p q v ≡ (meaning p q (first_uncovered s t m) then check_roots now copy vs (structs_at s p 0) cs cs₀ (touched_by s p t m) (versioned (structs_at s p 0)))
    → Changes (rec s p w) (rec b q w) t l → meaning p q v ≡ check_generations now copy vs (types_at s p) cs cs₀ (changed_types (rec s p w) (rec b q w))
unfolding check_generations
generations-are s p b q now copy vs cs cs₀ w t l m v o f e g =
    let c = cover-filled s p b q w t l m g f in
    e ∙ ap₂ (λ (x : D.Verdict) (touched : Str → Option Str). x then check_roots now copy vs (structs_at s p 0) cs cs₀ touched (versioned (structs_at s p 0)))
    (covered-table s p b q w t m o c) (touched-table s p b q w t m o c)
