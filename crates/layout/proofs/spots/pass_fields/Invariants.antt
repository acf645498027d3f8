use Prim.Native.Nat.{◌-◌}
use lib.ListN.{length}
use Rattle.record.specs.Commands.{place}
use Rattle.layout.specs.declared.spots.Ahead.TheVariants.{Body}
use Rattle.layout.specs.Spots.{cursor_at, OthersPassed}
use Rattle.layout.proofs.spots.pass_fields.Given as goal

abbrev pub invariant-loop-here : goal.invariant-loop-here
invariant-loop-here l = OthersPassed l.stream l.pool l.sizes l.name (cursor_at (Body (place l.from)) l.start) (cursor_at (Body (place l.at)) l.offset)

abbrev pub decreases-loop-here : goal.decreases-loop-here
decreases-loop-here l = length l.stream - l.at
