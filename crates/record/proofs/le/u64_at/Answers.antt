use mathlib.Core.Path.{sym}
use native.Mathlib.Omega.{arith}
use Rattle.record.specs.Le.{u64_at, u64-past}
use Rattle.record.proofs.le.u64_at.Goals as goal

pub returns-else-s-at-ge8 : goal.returns-else-s-at-ge8
unfolding u64_at
returns-else-s-at-ge8 c = omega arith

pub returns-else-at-s : goal.returns-else-at-s
returns-else-at-s c = sym (u64-past _ _ c.if-at-s.false)
