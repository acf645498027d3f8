-- Generations: check_generations of layout.rs, verdicts 40 to 46. Assumes nothing.
use Rattle.std.specs.Prelude.{List, Bool, ◌&&◌, cond, ℕ, ◌+◌, ◌^◌, eqb, ltb, Option, Some, None}
use Rattle.record.specs.Base.{Str, eqs, any}
use Rattle.record.specs.Schema.{Value, integer, words, Const, Struct, Version}
use Rattle.record.specs.Steps.{constant_in}
use Rattle.record.specs.Owner.{Types}
use Rattle.layout.specs.Layout.{TypeLayout}
use Rattle.definition.specs.Verdicts.{Verdict, pass, no_constant, no_generation, unraised, unlisted, leapt, fell}
use Rattle.definition.specs.Pass.{◌then◌, ensure, each, on_found}
use Rattle.definition.specs.Coverage.{check_all_covered, first_under}
use Rattle.record.specs.Versioned.{versioned}
use Rattle.record.specs.Generation.{Held, generation_of}

unfoldable pub is_listed : Str → ℕ → List Version → Bool
is_listed root n vs = any (λ (v : Version). eqs v.struct root && eqb v.version n) vs

-- a number that stays: nothing under its root may have changed
unfoldable pub check_still : Option Str → Str → Str → ℕ → Verdict
check_still touched root k was = on_found touched pass (λ (t : Str). unraised root was t k (was + 1))

-- the current release and the copy's, and the current version entries
module _ (now : Str) (copy : Option Str) (vs : List Version) where
  -- the first changed type under the root, the root, its constant, and the constant's number before and now
  unfoldable pub check_rise : Option Str → Str → Str → ℕ → ℕ → Verdict
  check_rise touched root k was is =
      cond (ltb is was) (fell k was is)
      (cond (eqb is was) (check_still touched root k was)
      (cond (eqb is (was + 1)) (ensure (is_listed root is vs) (unlisted k is root)) (leapt k was is copy now)))

  -- the same with the released constant's value: a text is skipped
  unfoldable pub check_from : Option Str → Str → Str → ℕ → Value → Verdict
  check_from touched root k is (words t) = pass
  check_from touched root k is (integer was) = ensure (ltb was (2 ^ 32)) (no_generation k was) then check_rise touched root k was is

  -- 01: an absent released generation constant is skipped
  unfoldable pub check_against : Option Str → Str → Str → ℕ → Option Const → Verdict
  check_against touched root k is None = pass
  check_against touched root k is (Some c) = check_from touched root k is c.value

  -- the current structures and constants, the released constants, the first changed type under each root, and a root
  unfoldable pub check_generation : List Struct → List Const → List Const → (Str → Option Str) → Str → Verdict
  check_generation ss cs cs₀ touched root =
      on_found (generation_of ss cs root) (no_constant root)
      (λ (g : Held). check_against (touched root) root g.constant g.number (constant_in g.constant cs₀))

  unfoldable pub check_roots : List Struct → List Const → List Const → (Str → Option Str) → List Str → Verdict
  check_roots ss cs cs₀ touched roots = each (check_generation ss cs cs₀ touched) roots

  -- first that every changed type is covered, then the roots
  unfoldable pub check_generations : Types → List Const → List Const → List TypeLayout → Verdict
  check_generations ts cs cs₀ changed =
      check_all_covered ts changed then check_roots ts.structs cs cs₀ (first_under ts changed) (versioned ts.structs)
