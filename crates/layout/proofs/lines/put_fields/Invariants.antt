use Prim.Native.Nat.{◌-◌}
use lib.ListN.{length}
use Rattle.record.specs.Commands.{place}
use Rattle.layout.specs.declared.spots.Ahead.TheVariants.{Body}
use Rattle.layout.specs.Names.{name_of}
use Rattle.layout.specs.Spots.{cursor_at}
use Rattle.layout.proofs.LineLaws.{FieldLines}
use Rattle.layout.proofs.lines.put_fields.Given as goal

abbrev pub invariant-loop-here : goal.invariant-loop-here
invariant-loop-here l =
    FieldLines l.stream l.pool l.sizes (name_of l.pool l.owner) (cursor_at (Body (place l.from)) l.start) l.initial.out l.at l.out (cursor_at (Body (place l.next)) l.offset) l.end

abbrev pub decreases-loop-here : goal.decreases-loop-here
decreases-loop-here l = length l.stream - l.next
