use native.Mathlib.Omega.{arith}
use Rattle.record.proofs.WriterLaws.{text-short}
use Rattle.layout.proofs.NameLaws.{name-front-long, name-both-long}
use Rattle.layout.proofs.names.name_len.Goals as goal

pub returns-in_default : goal.returns-in_default
returns-in_default c = (search name-front-long, omega (arith, text-short))

pub overflow_add-result : goal.overflow_add-result
overflow_add-result c = omega (arith, text-short)

pub overflow_add-result-2 : goal.overflow_add-result-2
overflow_add-result-2 c = omega (arith, text-short)

pub returns : goal.returns
returns c = (search name-both-long, omega (arith, text-short))
