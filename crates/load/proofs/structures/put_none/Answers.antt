use Rattle.record.proofs.WriterLaws.{puts_none}
use native.Mathlib.Omega.{arith}
use Rattle.load.proofs.structures.put_none.Goals as goal

pub returns : goal.returns
returns c = puts_none _ _ (omega arith) (omega arith)
