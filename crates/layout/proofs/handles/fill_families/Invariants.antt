use Prim.Native.Nat.{◌-◌, ◌≤◌}
use lib.ListN.{length}
use Rattle.layout.specs.Handles.{families_from}
use Rattle.layout.proofs.HandleLaws.{Filling}
use Rattle.layout.proofs.handles.fill_families.Given as goal

abbrev pub invariant-loop-from : goal.invariant-loop-from
invariant-loop-from l = Filling (families_from l.stream 0 l.from) (families_from l.stream l.family l.at) l.initial.out l.out l.n × (l.family ≤ 32768)

abbrev pub decreases-loop-from : goal.decreases-loop-from
decreases-loop-from l = length l.stream - l.at
