use Prim.Native.Nat.{◌-◌}
use lib.ListN.{length}
use Rattle.record.specs.Commands.{place}
use Rattle.layout.specs.declared.spots.Ahead.TheVariants.{Body}
use Rattle.layout.specs.Spots.{cursor_at}
use Rattle.layout.proofs.LineLaws.{Measuring}
use Rattle.layout.proofs.measure.measure_fields.Given as goal

abbrev pub invariant-loop-here : goal.invariant-loop-here
invariant-loop-here l = Measuring l.stream l.pool l.sizes l.n (cursor_at (Body (place l.from)) l.start) l.at (cursor_at (Body (place l.next)) l.offset) l.end

abbrev pub decreases-loop-here : goal.decreases-loop-here
decreases-loop-here l = length l.stream - l.next
