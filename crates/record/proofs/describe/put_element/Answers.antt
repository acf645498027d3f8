use Rattle.record.proofs.DescribeLaws.{element-none, element-some}
use Rattle.record.proofs.WriterLaws.{puts-near}
use native.Mathlib.Omega.{arith}
use Rattle.record.specs.Base.{bytes}
use borrow.Author.Rules.{rules}
use Rattle.record.proofs.describe.put_element.Goals as goal

pub returns-in-None : goal.returns-in-None
unfolding bytes
returns-in-None c = (search element-none, omega (arith, puts-near))

pub returns-in-Some : goal.returns-in-Some
returns-in-Some c = (search element-some, search rules)
