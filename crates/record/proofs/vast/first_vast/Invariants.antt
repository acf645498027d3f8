use mathlib.Core.Path.{◌≡◌}
use Prim.Native.Nat.{◌-◌}
use lib.ListN.{length}
use Rattle.record.specs.Scalars.{scalars_of}
use Rattle.record.specs.Reading.{rec}
use Rattle.record.specs.Vast.{first_vast}
use Rattle.record.proofs.vast.first_vast.Given as goal

abbrev pub invariant-loop-at : goal.invariant-loop-at
invariant-loop-at l = first_vast (rec l.stream l.pool (scalars_of l.rows)) 0 ≡ first_vast (rec l.stream l.pool (scalars_of l.rows)) l.cursor.at

abbrev pub decreases-loop-at : goal.decreases-loop-at
decreases-loop-at l = length l.stream - l.cursor.at
