use Prim.Native.Nat.{◌-◌}
use lib.ListN.{length}
use Rattle.record.proofs.IndexLaws.{Scanned}
use Rattle.record.proofs.index.scan_declared.Given as goal

abbrev pub invariant-loop-place : goal.invariant-loop-place
invariant-loop-place l = Scanned l.stream l.pool l.name l.number l.at

abbrev pub decreases-loop-place : goal.decreases-loop-place
decreases-loop-place l = length l.stream - l.at
