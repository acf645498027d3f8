use mathlib.Core.Path.{◌≡◌}
use Prim.Native.Nat.{◌-◌}
use lib.ListN.{length}
use Rattle.record.specs.Stretch.{text_of}
use Rattle.record.specs.Steps.{bitfields_at}
use Rattle.definition.specs.BitfieldReleases.{check_bitfield_releases}
use Rattle.compare.proofs.bitfield_releases.check_bitfield_releases.Given as goal

abbrev pub invariant-loop-is : goal.invariant-loop-is
invariant-loop-is l = check_bitfield_releases (text_of l.current.pool.now l.shipping) (bitfields_at l.current.stream.now l.current.pool.now 0) (bitfields_at l.released.stream.now l.released.pool.now 0) ≡ check_bitfield_releases (text_of l.current.pool.now l.shipping) (bitfields_at l.current.stream.now l.current.pool.now l.cursor.at) (bitfields_at l.released.stream.now l.released.pool.now 0)

abbrev pub decreases-loop-is : goal.decreases-loop-is
decreases-loop-is l = length l.current.stream.now - l.cursor.at
