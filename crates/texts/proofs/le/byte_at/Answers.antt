use mathlib.Core.Path.{sym}
use Rattle.texts.specs.Le.{u8-past}
use Rattle.texts.proofs.le.byte_at.Goals as goal

pub returns-else-at-s : goal.returns-else-at-s
returns-else-at-s c = sym (u8-past c.args.s.now c.args.at c.if-at-s.false)
