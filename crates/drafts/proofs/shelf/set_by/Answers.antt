use Rattle.drafts.proofs.CallLaws.{set-no-row, set-forged, set-refused, set-able, set-done}
use mathlib.Core.Path.{refl}
use native.Mathlib.Omega.{arith}
use borrow.Author.Rules.{rules}
use Rattle.drafts.proofs.shelf.set_by.Goals as goal

pub returns-in_default : goal.returns-in_default
returns-in_default c = let e = c.in_default.ensures in set-no-row _ _ _ _ _ _ refl _ _ (omega arith) c.declined.ensures c.with_shelf.ensures

pub returns-then-is_forged : goal.returns-then-is_forged
returns-then-is_forged c = set-forged _ _ _ _ _ _ c.in-Some.ensures.1 c.in-Some.ensures.0 _ c.is_forged.ensures _ _ c.if-is_forged.true c.declined-then-is_forged.ensures c.with_shelf-then-is_forged.ensures

pub returns-in-Err : goal.returns-in-Err
returns-in-Err c = set-refused _ _ _ _ _ _ c.in-Some.ensures.1 c.in-Some.ensures.0 _ c.is_forged.ensures c.if-is_forged.false _ c.read_held.ensures _ _ _ _ (search rules) c.refusal.ensures c.with_shelf-in-Err.ensures

pub hold-requires : goal.hold-requires
hold-requires c = set-able _ _ _ _ _ _ c.in-Some.ensures.1 c.in-Some.ensures.0 _ c.is_forged.ensures c.if-is_forged.false _ c.read_held.ensures (search rules) _ _ _ c.after_part.ensures c.part.ensures c.part-2.ensures

pub returns : goal.returns
returns c = set-done _ _ _ _ _ _ c.in-Some.ensures.1 c.in-Some.ensures.0 _ c.is_forged.ensures c.if-is_forged.false _ c.read_held.ensures (search rules) _ _ _ c.after_part.ensures c.part.ensures c.part-2.ensures _ _ c.hold.ensures
