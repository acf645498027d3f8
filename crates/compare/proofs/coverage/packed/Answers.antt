use native.Mathlib.Omega.{arith}
use Rattle.compare.proofs.CoverageLaws.{packed-is}
use Rattle.compare.proofs.coverage.packed.Goals as goal

pub returns : goal.returns
returns c = packed-is _ (omega arith) (omega arith)
