-- What a plan must meet for its outcome to be met: the premises of the outcome theorem (proofs/Outcome). Assumes nothing.
use Rattle.std.specs.Prelude.{◌≡◌, true, false, ℕ, ◌+◌, ◌^◌, ◌<◌, Some, None}
use mathlib.Core.List.{List, map, Memᴰ}
use Rattle.record.specs.Base.{Str, eqs}
use Rattle.record.specs.Schema.{Const, Field, Struct, Family}
use Rattle.record.specs.Kind.{kind_of, is_padding}
use Rattle.record.specs.Shapes.{FieldLayout, shape_size}
use Rattle.record.specs.Versioned.{slot_order}
use Rattle.layout.specs.Layout.{TypeLayout, lay_families}
use Rattle.definition.specs.Verdicts.{Verdict, pass, constant_gone}
use Rattle.definition.specs.ReleaseOrder.{check_release_order}
use Rattle.definition.specs.FirstReleases.{check_first_releases}
use Rattle.definition.specs.Constants.{is_generation, check_constants}
use Rattle.definition.specs.Enums.{check_enums}
use Rattle.definition.specs.Bitfields.{check_bitfields}
use Rattle.definition.specs.BitfieldReleases.{check_bitfield_releases}
use Rattle.definition.specs.Standalone.{layouts_of, check_standing}
use Rattle.definition.specs.Coverage.{stands_alone}
use Rattle.definition.specs.Chain.{NoDup, NoColon}
use Rattle.load.specs.Plan.{Plan, whole, constants_with, constants_without, released}

abbrev pub field_names : List Field → List Str
field_names fs = map (λ (f : Field). f.name) fs

abbrev pub Keyless : List Field → Type 0
Keyless fs = (f : Field) → Memᴰ f fs → f.key ≡ None

-- a structure that is not the root
pub record Other (n : Str) (t : Struct) : Type 0 where
  pub named : eqs t.name n ≡ false
  pub free : t.slot ≡ None
  pub once : NoDup (field_names t.fields)
  pub keyless : Keyless t.fields

-- a layout of a family or of a variant
pub record Apart (n : Str) (t : TypeLayout) : Type 0 where
  pub named : eqs t.name n ≡ false
  pub once : NoDup (map (λ (f : FieldLayout). f.name) t.fields)

-- what a family is judged by besides its layouts
pub record Stands (p : Plan) (m : Family) : Type 0 where
  pub standing : check_standing p.families m.name m.standalone ≡ pass
  pub apart : (k : Str) → Memᴰ k (layouts_of m) → eqs p.name k ≡ false

-- the first releases of the shared sections, with these current constants beside the released ones
abbrev pub dated_with : Plan → List Const → ℕ → Verdict
dated_with p cs n = check_first_releases p.now (Some p.was) cs (constants_with p n) p.enums p.enums p.unstored p.unstored

pub record Feasible (p : Plan) : Type 0 where
  -- the sections that both records share pass beside themselves
  pub order : check_release_order p.now (Some p.was) ≡ pass
  pub dated : (m n : ℕ) → dated_with p (constants_with p m) n ≡ pass
  pub dated-without : (m n : ℕ) → dated_with p (constants_without p m) n ≡ pass
  pub constants-kept : (ss : List Struct) (m n : ℕ)
      → is_generation ss (constants_with p m) p.constant ≡ true → check_constants ss (constants_with p m) (constants_with p n) ≡ pass
  pub spare-gone : (ss : List Struct) (n : ℕ) → check_constants ss (constants_without p n) (constants_with p n) ≡ constant_gone p.spare.name
  pub enums-kept : check_enums p.enums p.enums ≡ pass
  pub bits-kept : check_bitfields p.bitfields p.bitfields ≡ pass
  pub bits-dated : check_bitfield_releases p.now p.bitfields p.bitfields ≡ pass
  pub families-stand : (m : Family) → Memᴰ m p.families → Stands p m
  pub families-apart : (t : TypeLayout) → Memᴰ t (lay_families (released p) p.families) → Apart p.name t
  pub none-alone : stands_alone p.families p.name ≡ false
  -- the generation
  pub small : p.generation + 1 < 2 ^ 32
  pub in-slot : Memᴰ p.slot slot_order
  pub no-colon : NoColon p.name
  -- the structures
  pub before-other : (t : Struct) → Memᴰ t p.before → Other p.name t
  pub after-other : (t : Struct) → Memᴰ t p.after → Other p.name t
  -- the root's fields
  pub once : NoDup (field_names (whole p))
  pub front-keyless : Keyless p.front
  pub back-keyless : Keyless p.back
  pub target-keyless : p.target.key ≡ None
  pub retyped-keyless : p.retyped.key ≡ None
  pub inserted-keyless : p.inserted.key ≡ None
  pub added-keyless : p.added.key ≡ None
  pub target_real : is_padding (kind_of p.target.kind) ≡ false
  pub retyped-named : p.retyped.name ≡ p.target.name
  pub retyped-sized : shape_size (released p) p.retyped ≡ shape_size (released p) p.target → ⊥
  pub inserted-named : eqs p.inserted.name p.target.name ≡ false
  pub inserted-sized : 0 < shape_size (released p) p.inserted
