use Prim.Native.Nat.{◌-◌}
use lib.ListN.{length}
use Rattle.record.specs.Seek.{places_of}
use Rattle.record.specs.declared.seek.Between.TheVariants.{Anything}
use Rattle.layout.proofs.HandleLaws.{Filling}
use Rattle.layout.proofs.handles.fill_places.Given as goal

abbrev pub invariant-loop-place : goal.invariant-loop-place
invariant-loop-place l = Filling (places_of l.stream Anything l.number 0) (places_of l.stream Anything l.number l.at) l.initial.out l.out l.n

abbrev pub decreases-loop-place : goal.decreases-loop-place
decreases-loop-place l = length l.stream - l.at
