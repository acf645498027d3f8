use native.Mathlib.Omega.{arith}
use Rattle.record.specs.Base.{bytes}
use Rattle.record.proofs.WriterLaws.{puts-near}
use Rattle.verdicts.proofs.ArgumentLaws.{standing-true, standing-false}
use Rattle.verdicts.proofs.arguments.put_standing.Goals as goal

pub returns-then-standalone : goal.returns-then-standalone
unfolding bytes
returns-then-standalone c = (search standing-true, omega (arith, puts-near))

pub returns : goal.returns
unfolding bytes
returns c = (search standing-false, omega (arith, puts-near))
