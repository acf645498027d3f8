-- One pass after another, with the code's verdicts: the violation of one is handed on as what comes of all. Assumes nothing.
use mathlib.Core.Path.{◌≡◌, sym, ap, ◌∙◌}
use Prim.Native.Nat.{ℕ}
use native.Mathlib.Omega.{arith}
use Rattle.std.specs.Prelude.{Result, Ok, Err, ⊤, IsErr, IsErrAnd}
use Rattle.std.proofs.lemmas.Result.{err_from_is_err_and}
use Rattle.record.specs.Base.{Str}
use Rattle.definition.specs.Verdicts as D
use Rattle.definition.specs.Pass.{◌then◌}
use Rattle.verdicts.specs.Meaning.{meaning}
use Rattle.verdicts.specs.declared.verdict.Verdict.{Verdict}
use Rattle.verdicts.proofs.VerdictLaws.{stops}

-- a pass found a violation, and this is handed on
pub record HandedOn (v z : Result ⊤ Verdict) : Type 0 where
  pub violation : Verdict
  pub from : v ≡ Err violation
  pub to : z ≡ Err violation

-- what a ? hands on
pub handed : (v z : Result ⊤ Verdict) (x : Verdict) → v ≡ Err x → IsErr z × IsErrAnd z (λ y. y ≡ x) → HandedOn v z
handed v z x e h = let p = err_from_is_err_and z h.1 in record { violation = x; from = e; to = rw (p.1, p.2) }

pub again : (v z : Result ⊤ Verdict) → HandedOn v z → HandedOn z z
again v z h = record { violation = h.violation; from = h.to; to = h.to }

pub stays : (pool old : Str) (v z : Result ⊤ Verdict) (w : D.Verdict) → HandedOn v z → (meaning pool old v then w) ≡ meaning pool old z
stays pool old v z w h = ap (λ y. meaning pool old y then w) h.from ∙ stops pool old h.violation w ∙ sym (ap (meaning pool old) h.to)

module _ (pool old : Str) (a b : D.Verdict) (v : Result ⊤ Verdict) (h : meaning pool old v ≡ a) where
  pub then-on : (w : Result ⊤ Verdict) → v ≡ Ok tt → meaning pool old w ≡ b → meaning pool old w ≡ (a then b)
  unfolding ◌then◌ meaning
  then-on w e k = k ∙ ap (λ (x : D.Verdict). x then b) (sym (ap (meaning pool old) e) ∙ h)

  pub then-stop : (z : Result ⊤ Verdict) → HandedOn v z → meaning pool old z ≡ (a then b)
  then-stop z e = sym (stays pool old v z b e) ∙ ap (λ (x : D.Verdict). x then b) h

-- a violation is not what passes
pub not-passed : (v : Verdict) → ◌≡◌ {A = Result ⊤ Verdict} (Err v) (Ok tt) → ⊥
not-passed v e = let z : ◌≡◌ {A = ℕ} 0 1 = cc in omega arith

pub handed-passed : (v z : Result ⊤ Verdict) → HandedOn v z → z ≡ Ok tt → ⊥
handed-passed v z h e = not-passed h.violation (sym h.to ∙ e)
