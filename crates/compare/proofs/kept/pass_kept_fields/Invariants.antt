use Prim.Native.Nat.{◌-◌}
use lib.ListN.{length}
use Rattle.compare.specs.Alike.{body_at}
use Rattle.compare.proofs.KeptLaws.{Keeping}
use Rattle.compare.proofs.kept.pass_kept_fields.Given as goal

abbrev pub invariant-loop-after : goal.invariant-loop-after
invariant-loop-after l = Keeping l.sides.current.record.stream.now l.sides.current.record.pool.now l.sides.current.sizes.now l.from.front l.initial.seen l.seen (body_at l.from.at l.from.offset) l.at l.sides.released.record.stream.now l.sides.released.record.pool.now l.sides.released.sizes.now (body_at l.from.to l.from.offset) l.to l.offset

abbrev pub decreases-loop-after : goal.decreases-loop-after
decreases-loop-after l = length l.sides.current.record.stream.now - l.at
