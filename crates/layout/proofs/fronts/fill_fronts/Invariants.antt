use mathlib.Core.Path.{◌≡◌}
use lib.ListN.{length}
use Rattle.layout.specs.Fronts.{Fronts}
use Rattle.layout.proofs.fronts.fill_fronts.Given as goal

abbrev pub invariant-loop-handle : goal.invariant-loop-handle
invariant-loop-handle l = Fronts l.stream l.pool l.fronts × (length l.fronts ≡ length l.initial.fronts)
