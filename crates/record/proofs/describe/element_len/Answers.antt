use native.Mathlib.Omega.{arith}
use Rattle.record.proofs.DescribeLaws.{element-none-long, element-some-long}
use Rattle.record.proofs.WriterLaws.{text-short}
use Rattle.record.proofs.describe.element_len.Goals as goal

pub returns-in-None : goal.returns-in-None
returns-in-None c = (search element-none-long, omega arith)

pub returns-in-Some : goal.returns-in-Some
returns-in-Some c = (search element-some-long, omega (arith, text-short))
