use mathlib.Core.Path.{◌≡◌}
use Prim.Native.Nat.{◌-◌}
use lib.ListN.{length}
use Rattle.record.specs.Stretch.{text_of}
use Rattle.record.specs.Lists.{opt_of}
use Rattle.record.specs.Steps.{members_at, bitfield_found}
use Rattle.definition.specs.Pass.{required}
use Rattle.definition.specs.BitfieldReleases.{check_members_arrived}
use Rattle.compare.proofs.bitfield_releases.check_members_arrived.Given as goal

abbrev pub invariant-loop-m : goal.invariant-loop-m
invariant-loop-m l = check_members_arrived (text_of l.current.pool.now l.shipping) (text_of l.current.pool.now l.owner) (required (opt_of l.current.pool.now l.since)) (bitfield_found l.released.stream.now l.released.pool.now l.was) (members_at l.current.stream.now l.current.pool.now l.initial.cursor.at) ≡ check_members_arrived (text_of l.current.pool.now l.shipping) (text_of l.current.pool.now l.owner) (required (opt_of l.current.pool.now l.since)) (bitfield_found l.released.stream.now l.released.pool.now l.was) (members_at l.current.stream.now l.current.pool.now l.cursor.at)

abbrev pub decreases-loop-m : goal.decreases-loop-m
decreases-loop-m l = length l.current.stream.now - l.cursor.at
