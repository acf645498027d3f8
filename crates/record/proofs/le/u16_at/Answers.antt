use mathlib.Core.Path.{sym}
use native.Mathlib.Omega.{arith}
use Rattle.record.specs.Le.{u16_at, u16-past}
use Rattle.record.proofs.le.u16_at.Goals as goal

pub returns-then-at-s : goal.returns-then-at-s
unfolding u16_at
returns-then-at-s c = omega arith

pub returns-else-at-s : goal.returns-else-at-s
returns-else-at-s c = sym (u16-past _ _ c.if-at-s.false)
