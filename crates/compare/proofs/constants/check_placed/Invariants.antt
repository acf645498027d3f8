use mathlib.Core.Path.{◌≡◌}
use mathlib.Core.List.{map}
use lib.ListN.{drop}
use Rattle.record.specs.Steps.{structs_at, constants_at}
use Rattle.layout.specs.Constants.{placed_constant}
use Rattle.definition.specs.Constants.{check_constants_in}
use Rattle.compare.proofs.constants.check_placed.Given as goal

abbrev pub invariant-loop-place : goal.invariant-loop-place
invariant-loop-place l = check_constants_in (structs_at l.current.record.stream.now l.current.record.pool.now 0) (constants_at l.current.record.stream.now l.current.record.pool.now 0) (map (placed_constant l.released.stream.now l.released.pool.now) l.table) ≡ check_constants_in (structs_at l.current.record.stream.now l.current.record.pool.now 0) (constants_at l.current.record.stream.now l.current.record.pool.now 0) (map (placed_constant l.released.stream.now l.released.pool.now) (drop l.place-index l.table))
