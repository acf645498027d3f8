use mathlib.Core.Path.{◌≡◌}
use Rattle.compare.specs.CoverTable.{first_touched}
use Rattle.compare.proofs.cover_table.first_touched.Given as goal

abbrev pub invariant-loop-handle : goal.invariant-loop-handle
invariant-loop-handle l = first_touched l.pool l.types l.cover l.root ≡ first_touched l.pool l.handle-iterator.a.rest.now l.handle-iterator.b.rest.now l.root
