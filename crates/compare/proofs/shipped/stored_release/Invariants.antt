use mathlib.Core.List.{[]}
use mathlib.Core.Path.{◌≡◌}
use lib.ListN.{length}
use Rattle.record.specs.Steps.{structs_at}
use Rattle.record.specs.Keys.{plugin_keys, stored_from}
use Rattle.definition.specs.FirstReleases.{key_release}
use Rattle.compare.specs.Shipped.{shipped_of}
use Rattle.compare.proofs.ShippedLaws.{key_latest}
use Rattle.compare.proofs.shipped.stored_release.Given as goal

abbrev pub invariant-loop-k : goal.invariant-loop-k
invariant-loop-k l = key_release l.name (plugin_keys (structs_at l.released.stream.now l.released.pool.now 0) []) ≡ key_latest l.name (shipped_of l.released.pool.now l.found) (stored_from l.released.stream.now l.released.pool.now l.at [])

abbrev pub decreases-loop-k : goal.decreases-loop-k
decreases-loop-k l = length (stored_from l.released.stream.now l.released.pool.now l.at [])
