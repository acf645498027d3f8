use native.Mathlib.Omega.{arith}
use Rattle.record.proofs.DescribeLaws.{shape-long}
use Rattle.record.proofs.WriterLaws.{text-short}
use Rattle.record.proofs.describe.shape_len.Goals as goal

pub overflow_add-result : goal.overflow_add-result
overflow_add-result c = omega (arith, text-short)

pub returns : goal.returns
returns c = (search shape-long, omega (arith, text-short))
