use Prim.Native.Nat.{◌-◌}
use lib.ListN.{length}
use Rattle.record.specs.Commands.{place}
use Rattle.layout.specs.Spots.{cursor_at}
use Rattle.layout.specs.declared.spots.Ahead.TheVariants.{Body}
use Rattle.compare.specs.Alike.{AlikePassed}
use Rattle.compare.proofs.alike.pass_places.Given as goal

abbrev pub invariant-loop-after : goal.invariant-loop-after
invariant-loop-after l = AlikePassed l.sides.current.record.stream.now l.sides.current.record.pool.now l.sides.current.sizes.now l.sides.released.record.stream.now l.sides.released.record.pool.now l.sides.released.sizes.now (cursor_at (Body (place l.from)) l.start) (cursor_at (Body (place l.other)) l.start) (cursor_at (Body (place l.at)) l.offset) (cursor_at (Body (place l.to)) l.offset)

abbrev pub decreases-loop-after : goal.decreases-loop-after
decreases-loop-after l = length l.sides.current.record.stream.now - l.at
