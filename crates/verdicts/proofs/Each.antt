-- A pass over a list, one element at a time, with the code's verdicts. Assumes nothing.
use mathlib.Core.Path.{◌≡◌, sym, ap, ◌∙◌}
use mathlib.Core.List.{List, [], ◌∷◌}
use Rattle.std.specs.Prelude.{Result, Ok, ⊤}
use Rattle.record.specs.Base.{Str}
use Rattle.definition.specs.Verdicts as D
use Rattle.definition.specs.Pass.{◌then◌, each}
use Rattle.verdicts.specs.Meaning.{meaning}
use Rattle.verdicts.specs.declared.verdict.Verdict.{Verdict}
use Rattle.verdicts.proofs.PassLaws.{HandedOn, stays}

module _ {A : Type 0} (f : A → D.Verdict) (l : List A) (pool old : Str) where
  pub each-end : l ≡ [] → each f l ≡ meaning pool old (Ok tt)
  unfolding each meaning
  each-end e = ap (each f) e

  module _ (x : A) (m : List A) (v : Result ⊤ Verdict) (e : l ≡ x ∷ m) (h : meaning pool old v ≡ f x) where
    pub each_on : v ≡ Ok tt → each f l ≡ each f m
    unfolding each ◌then◌ meaning
    each_on g = ap (each f) e ∙ ap (λ y. y then each f m) (sym h ∙ ap (meaning pool old) g)

    pub each-stop : (z : Result ⊤ Verdict) → HandedOn v z → each f l ≡ meaning pool old z
    unfolding each
    each-stop z g = ap (each f) e ∙ ap (λ y. y then each f m) (sym h) ∙ stays pool old v z (each f m) g
