use Prim.Native.Nat.{◌-◌}
use lib.ListN.{length}
use Rattle.record.specs.Seek.{places_of}
use Rattle.record.specs.declared.seek.Between.TheVariants.{Anything}
use Rattle.layout.proofs.HandleLaws.{Filling, Begun}
use Rattle.layout.proofs.handles.fill_structs.Given as goal

abbrev pub invariant-loop-at : goal.invariant-loop-at
invariant-loop-at l = Filling (places_of l.stream Anything 8 0) (places_of l.stream Anything 8 l.at) l.initial.out l.out l.n × Begun l.stream l.family l.at

abbrev pub decreases-loop-at : goal.decreases-loop-at
decreases-loop-at l = length l.stream - l.at
