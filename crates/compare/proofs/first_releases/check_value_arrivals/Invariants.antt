use mathlib.Core.Path.{◌≡◌}
use Prim.Native.Nat.{◌-◌}
use lib.ListN.{length}
use Rattle.record.specs.Stretch.{text_of}
use Rattle.record.specs.Lists.{opt_of}
use Rattle.record.specs.Steps.{values_at, enum_found}
use Rattle.definition.specs.FirstReleases.{check_value_arrivals}
use Rattle.compare.proofs.first_releases.check_value_arrivals.Given as goal

abbrev pub invariant-loop-is : goal.invariant-loop-is
invariant-loop-is l = check_value_arrivals (text_of l.current.pool.now l.dates.current) (opt_of l.released.pool.now l.dates.copy) (text_of l.current.pool.now l.parent.name) (opt_of l.current.pool.now l.parent.first_release) (enum_found l.released.stream.now l.released.pool.now l.was) (values_at l.current.stream.now l.current.pool.now l.initial.cursor.at) ≡ check_value_arrivals (text_of l.current.pool.now l.dates.current) (opt_of l.released.pool.now l.dates.copy) (text_of l.current.pool.now l.parent.name) (opt_of l.current.pool.now l.parent.first_release) (enum_found l.released.stream.now l.released.pool.now l.was) (values_at l.current.stream.now l.current.pool.now l.cursor.at)

abbrev pub decreases-loop-is : goal.decreases-loop-is
decreases-loop-is l = length l.current.stream.now - l.cursor.at
