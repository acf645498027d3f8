use mathlib.Core.Path.{◌≡◌}
use mathlib.Core.List.{◌++◌}
use lib.ListN.{take, drop}
use Rattle.definition.specs.Coverage.{owning}
use Rattle.compare.proofs.coverage.before_colons.Given as goal

abbrev pub invariant-loop-i : goal.invariant-loop-i
invariant-loop-i l = owning l.name ≡ take l.i l.name ++ owning (drop l.i l.name)
