use native.Mathlib.Omega.{arith}
use Rattle.record.proofs.SeekLaws.{sought-nearer}
use Rattle.layout.proofs.LineLaws.{field-lines-start, field-lines-next, field-lines-end}
use borrow.Author.Rules.{rules}
use Rattle.layout.proofs.lines.put_fields.Goals as goal

pub loop-here-init : goal.loop-here-init
loop-here-init c = field-lines-start _ _ _ _ _ _ _ (omega arith)

pub returns : goal.returns
returns c = field-lines-end _ _ _ _ _ _ _ _ _ _ _ c.loop-here.invariant _ c.seek.ensures (search rules) (omega arith)

pub loop-here-smaller : goal.loop-here-smaller
loop-here-smaller c = search sought-nearer

pub loop-here-preserved : goal.loop-here-preserved
loop-here-preserved c = search field-lines-next
