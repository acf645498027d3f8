use mathlib.Core.Path.{◌≡◌}
use Rattle.compare.specs.CoverTable.{first_uncovered}
use Rattle.compare.proofs.cover_table.check_covered.Given as goal

abbrev pub invariant-loop-handle : goal.invariant-loop-handle
invariant-loop-handle l = first_uncovered l.stream l.types l.cover ≡ first_uncovered l.stream l.handle-iterator.a.rest.now l.handle-iterator.b.rest.now
