use native.Mathlib.Omega.{arith}
use Rattle.record.proofs.WriterLaws.{text-short}
use Rattle.layout.proofs.LineLaws.{field-long}
use Rattle.layout.proofs.measure.field_len.Goals as goal

pub overflow_add-result : goal.overflow_add-result
overflow_add-result c = omega (arith, text-short)

pub overflow_add-result-2 : goal.overflow_add-result-2
overflow_add-result-2 c = omega (arith, text-short)

pub overflow_add-result-3 : goal.overflow_add-result-3
overflow_add-result-3 c = omega (arith, text-short)

pub returns : goal.returns
returns c = (search field-long, omega (arith, text-short))
