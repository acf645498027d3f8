use Prim.Native.Nat.{◌-◌}
use lib.ListN.{length}
use Rattle.record.specs.Vast.{unit_at, extra_at}
use Rattle.record.proofs.BoundLaws.{Totalling}
use Rattle.record.proofs.vast.within.Given as goal

abbrev pub invariant-loop-unit : goal.invariant-loop-unit
invariant-loop-unit l = Totalling (unit_at l.stream) l.stream l.units l.at × Totalling (extra_at l.v l.stream) l.stream l.extra l.at

abbrev pub decreases-loop-unit : goal.decreases-loop-unit
decreases-loop-unit l = length l.stream - l.at
