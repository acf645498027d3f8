use native.Mathlib.Omega.{arith}
use Rattle.record.specs.Base.{bytes}
use Rattle.record.proofs.WriterLaws.{puts-near}
use Rattle.verdicts.proofs.ArgumentLaws.{copy-none, copy_some}
use borrow.Author.Rules.{rules}
use Rattle.verdicts.proofs.arguments.put_copy.Goals as goal

pub returns-in-None : goal.returns-in-None
unfolding bytes
returns-in-None c = (search copy-none, omega (arith, puts-near))

pub returns-in-Some : goal.returns-in-Some
returns-in-Some c = (search copy_some, search rules)
