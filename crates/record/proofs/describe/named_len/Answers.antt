use native.Mathlib.Omega.{arith}
use Rattle.record.proofs.DescribeLaws.{type-long, element-long, none-long}
use Rattle.record.proofs.WriterLaws.{text-short}
use Rattle.record.proofs.describe.named_len.Goals as goal

pub overflow_add-result : goal.overflow_add-result
overflow_add-result c = omega (arith, text-short)

pub returns-in-Some : goal.returns-in-Some
returns-in-Some c = (search type-long, omega (arith, text-short))

pub overflow_add-result-in-Some-opt_text_at : goal.overflow_add-result-in-Some-opt_text_at
overflow_add-result-in-Some-opt_text_at c = omega (arith, text-short)

pub returns-in-Some-opt_text_at : goal.returns-in-Some-opt_text_at
returns-in-Some-opt_text_at c = (search element-long, omega (arith, text-short))

pub returns : goal.returns
returns c = (search none-long, omega arith)
