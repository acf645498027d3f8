use mathlib.Core.Path.{refl, sym, subst}
use native.Mathlib.Omega.{arith}
use Prim.Native.Nat.{ℕ}
use Rattle.drafts.specs.Shelving.{RowAt}
use Rattle.drafts.proofs.RowLaws.{for-none, for-long, for-own, for-free}
use Rattle.drafts.proofs.names.row_for.Goals as goal
use Rattle.drafts.proofs.names.row_for.Goals.{then-name-eq0-via-then-name-eq0, then-name-eq0-via-else-name-eq0+then-name-gt16}

pub returns-then-name-eq0 : goal.returns-then-name-eq0
returns-then-name-eq0 c =
    elim c.then-name-eq0.branch [
      | then-name-eq0-via-then-name-eq0 w ↦ sym (search for-none)
      | then-name-eq0-via-else-name-eq0+then-name-gt16 w ↦ sym (search for-long)
    ]

pub returns-in_default : goal.returns-in_default
returns-in_default c =
    let e = c.in_default.ensures in
    subst (λ (n : ℕ). RowAt n c.free_row.result) (for-free _ _ c.if-name-eq0.false c.if-name-gt16.false _ refl _ (omega arith) refl) c.free_row.ensures

pub returns : goal.returns
returns c = (c.in-Some.ensures.0, for-own _ _ c.if-name-eq0.false c.if-name-gt16.false _ c.in-Some.ensures.1 c.in-Some.ensures.0)
