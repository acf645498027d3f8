use mathlib.Core.Path.{◌≡◌}
use lib.ListN.{length}
use Rattle.record.specs.Stretch.{text_of}
use Rattle.record.specs.Lists.{opt_of}
use Rattle.record.specs.Steps.{structs_at, unstored_at}
use Rattle.record.specs.Keys.{plugin_keys, keys_from}
use Rattle.definition.specs.FirstReleases.{check_key_arrivals}
use Rattle.compare.proofs.first_releases.check_key_arrivals.Given as goal

abbrev pub invariant-loop-is : goal.invariant-loop-is
invariant-loop-is l = check_key_arrivals (text_of l.current.pool.now l.dates.current) (opt_of l.released.record.pool.now l.dates.copy) (plugin_keys (structs_at l.current.stream.now l.current.pool.now 0) (unstored_at l.current.stream.now l.current.pool.now 0)) (plugin_keys (structs_at l.released.record.stream.now l.released.record.pool.now 0) (unstored_at l.released.record.stream.now l.released.record.pool.now 0)) ≡ check_key_arrivals (text_of l.current.pool.now l.dates.current) (opt_of l.released.record.pool.now l.dates.copy) (keys_from l.current.stream.now l.current.pool.now l.at) (plugin_keys (structs_at l.released.record.stream.now l.released.record.pool.now 0) (unstored_at l.released.record.stream.now l.released.record.pool.now 0))

abbrev pub decreases-loop-is : goal.decreases-loop-is
decreases-loop-is l = length (keys_from l.current.stream.now l.current.pool.now l.at)
