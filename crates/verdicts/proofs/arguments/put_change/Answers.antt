use native.Mathlib.Omega.{arith}
use Rattle.record.specs.Base.{bytes}
use Rattle.record.proofs.WriterLaws.{puts-near}
use Rattle.verdicts.proofs.ArgumentLaws.{change-none, change-some}
use borrow.Author.Rules.{rules}
use Rattle.verdicts.proofs.arguments.put_change.Goals as goal

pub returns-in-None : goal.returns-in-None
unfolding bytes
returns-in-None c = (search change-none, omega (arith, puts-near))

pub returns-in-Some : goal.returns-in-Some
unfolding bytes
returns-in-Some c = (search change-some, search rules)
