use native.Mathlib.Omega.{arith}
use Rattle.record.proofs.SeekLaws.{sought-nearer}
use Rattle.layout.proofs.LineLaws.{measuring-start, measuring-next, measuring-end}
use Rattle.layout.proofs.measure.measure_fields.Goals as goal

pub loop-here-init : goal.loop-here-init
loop-here-init c = measuring-start _ _ _ _ _ _ (omega arith) (omega arith)

pub returns : goal.returns
returns c = search measuring-end

pub overflow_add-n : goal.overflow_add-n
overflow_add-n c = omega arith

pub loop-here-smaller : goal.loop-here-smaller
loop-here-smaller c = search sought-nearer

pub loop-here-preserved : goal.loop-here-preserved
loop-here-preserved c = search measuring-next
