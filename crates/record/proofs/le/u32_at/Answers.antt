use mathlib.Core.Path.{sym}
use native.Mathlib.Omega.{arith}
use Rattle.record.specs.Le.{u32_at, u32-past}
use Rattle.record.proofs.le.u32_at.Goals as goal

pub returns-else-s-at-ge4 : goal.returns-else-s-at-ge4
unfolding u32_at
returns-else-s-at-ge4 c = omega arith

pub returns-else-at-s : goal.returns-else-at-s
returns-else-at-s c = sym (u32-past _ _ c.if-at-s.false)
