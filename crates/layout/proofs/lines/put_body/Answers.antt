use native.Mathlib.Omega.{arith}
use Rattle.layout.proofs.LineLaws.{lines-past}
use Rattle.layout.proofs.lines.put_body.Goals as goal

pub returns-then-out-at : goal.returns-then-out-at
returns-then-out-at c = lines-past _ _ _ _ _ _ _ _ c.measure_fields.ensures (omega arith) (omega arith)
