use mathlib.Core.Path.{◌≡◌}
use Prim.Native.Nat.{◌-◌}
use lib.ListN.{length}
use Rattle.record.specs.Stretch.{text_of}
use Rattle.record.specs.Lists.{opt_of}
use Rattle.record.specs.Steps.{enums_at}
use Rattle.definition.specs.FirstReleases.{check_enum_arrivals}
use Rattle.compare.proofs.first_releases.check_enum_arrivals.Given as goal

abbrev pub invariant-loop-is : goal.invariant-loop-is
invariant-loop-is l = check_enum_arrivals (text_of l.current.pool.now l.dates.current) (opt_of l.released.record.pool.now l.dates.copy) (enums_at l.current.stream.now l.current.pool.now 0) (enums_at l.released.record.stream.now l.released.record.pool.now 0) ≡ check_enum_arrivals (text_of l.current.pool.now l.dates.current) (opt_of l.released.record.pool.now l.dates.copy) (enums_at l.current.stream.now l.current.pool.now l.cursor.at) (enums_at l.released.record.stream.now l.released.record.pool.now 0)

abbrev pub decreases-loop-is : goal.decreases-loop-is
decreases-loop-is l = length l.current.stream.now - l.cursor.at
