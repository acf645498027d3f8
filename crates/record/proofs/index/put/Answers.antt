use native.Mathlib.Omega.{arith}
use lib.ListN.{length-set}
use Rattle.record.proofs.index.put.Goals as goal

pub bounds-index-hash-2 : goal.bounds-index-hash-2
bounds-index-hash-2 c = simp length-set (omega arith)
