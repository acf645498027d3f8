use mathlib.Core.Path.{refl}
use native.Mathlib.Omega.{arith}
use Rattle.drafts.proofs.CallLaws.{back-forged, back_none, back_found}
use Rattle.drafts.proofs.shelf.back_by.Goals as goal

pub returns-then-is_forged : goal.returns-then-is_forged
returns-then-is_forged c = back-forged _ _ _ _ _ _ _ c.is_forged.ensures _ _ c.if-is_forged.true c.declined.ensures c.with_shelf.ensures

pub returns-in_default : goal.returns-in_default
returns-in_default c = let e = c.in_default.ensures in back_none _ _ _ _ _ _ _ c.is_forged.ensures c.if-is_forged.false _ refl _ _ (omega arith) c.declined-in_default.ensures c.with_shelf-in_default.ensures

pub returns : goal.returns
returns c = back_found _ _ _ _ _ _ _ c.is_forged.ensures c.if-is_forged.false _ c.in-Some.ensures.1 _ _ _ _ c.in-Some.ensures.0 c.from.ensures c.upto-place.ensures c.bring_back.ensures
