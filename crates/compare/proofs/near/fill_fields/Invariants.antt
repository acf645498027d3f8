use Prim.Native.Nat.{◌-◌}
use lib.ListN.{length}
use Rattle.record.specs.Commands.{place}
use Rattle.layout.specs.Spots.{cursor_at}
use Rattle.layout.specs.declared.spots.Ahead.TheVariants.{Body}
use Rattle.compare.proofs.NearLaws.{Nearing}
use Rattle.compare.proofs.near.fill_fields.Given as goal

abbrev pub invariant-loop-here : goal.invariant-loop-here
invariant-loop-here l = Nearing l.current.record.stream.now l.current.record.pool.now l.current.sizes.now (cursor_at (Body (place l.from)) l.start) l.initial.table l.table l.at l.offset

abbrev pub decreases-loop-here : goal.decreases-loop-here
decreases-loop-here l = length l.current.record.stream.now - l.at
