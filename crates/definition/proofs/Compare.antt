-- The comparison by the numbers of its passes: one after the other they are the whole. Assumes nothing.
use mathlib.Core.Path.{◌≡◌, refl, sym, ap, ap₂, ◌∙◌}
use mathlib.Core.List.{List, ◌∷◌}
use mathlib.Core.Bool.{Bool, true, false, cond}
use Prim.Native.Nat.{ℕ, suc, ◌+◌, ◌-◌, ◌≤◌, ◌<◌}
use native.Mathlib.Numerals.{add-one}
use native.Mathlib.Omega.{arith}
use lib.ListN.{length, get_or, take, drop}
use lib.Seq.{drop-cons}
use Rattle.record.specs.Schema.{Schema}
use Rattle.definition.specs.Verdicts.{Verdict, pass, stop}
use Rattle.definition.specs.Pass.{◌then◌}
use Rattle.definition.specs.Unreleased.{check_nothing_released}
use Rattle.definition.specs.Compare.{pass_list, all_passes, pass_at, passes, pass_count, first_of, compare}

then-none : (a : Verdict) → (a then pass) ≡ a
unfolding ◌then◌
then-none pass = refl
then-none (stop w m) = refl

module _ (cur rel : Schema) where
  abbrev L : List Verdict
  L = all_passes cur rel

  ten : length L ≡ 10
  unfolding all_passes pass_list
  ten = refl

  -- a pass, and those after it
  pub passes-step : (k e : ℕ) → k < e → e ≤ 10 → passes k e cur rel ≡ (pass_at k cur rel then passes (k + 1) e cur rel)
  unfolding passes pass_at first_of
  passes-step k e h l =
      let n : e - k ≡ suc (e - (k + 1)) = omega arith in
      let i : k < length L = omega (arith, ten) in
      ap first_of (ap₂ {C = List Verdict} take n (drop-cons L k pass i))
      ∙ ap (λ (j : ℕ). get_or L k pass then first_of (take (e - (k + 1)) (drop j L))) (sym (add-one k))

  -- none are left
  pub no-passes : (k e : ℕ) → e ≤ k → passes k e cur rel ≡ pass
  unfolding passes first_of
  no-passes k e h = let n : e - k ≡ 0 = omega arith in ap (λ (j : ℕ). first_of (take j (drop k L))) n

  abbrev copy : Verdict
  copy = check_nothing_released rel.structs rel.constants rel.enums rel.bitfields rel.aliases rel.families

  -- the comparison is the first violation among the passes that judge the pair
  pub compare-passes : compare cur rel ≡ passes 0 (pass_count rel) cur rel
  unfolding compare passes pass_count all_passes pass_list first_of ◌then◌
  compare-passes = go rel.unreleased
    where
      go : (b : Bool) → cond b copy (first_of (pass_list cur rel)) ≡ first_of (take (cond b 1 10 - 0) (drop 0 (cond b copy pass ∷ pass_list cur rel)))
      go true = sym (then-none copy)
      go false = refl
