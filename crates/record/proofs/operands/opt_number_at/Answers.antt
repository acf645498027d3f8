use Rattle.std.proofs.Common.{refl}
use Rattle.record.proofs.CommandLaws.{number-here, number-none, number_past}
use Rattle.record.proofs.operands.opt_number_at.Goals as goal
use Rattle.record.proofs.operands.opt_number_at.Goals.{else-at-s-via-then-at-s+else-s-at-ne0, else-at-s-via-else-at-s}

pub returns-then-s-at-ne0 : goal.returns-then-s-at-ne0
returns-then-s-at-ne0 c = number-here _ _ _ _ refl c.if-s-at-ne0.true c.u32_at.ensures

pub returns : goal.returns
returns c = elim c.else-at-s.branch [
  | else-at-s-via-then-at-s+else-s-at-ne0 w ↦ number-none _ _ _ refl w.if-s-at-ne0.false
  | else-at-s-via-else-at-s w ↦ number_past _ _ w.if-at-s.false
]
