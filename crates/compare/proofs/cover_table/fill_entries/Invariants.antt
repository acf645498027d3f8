use Rattle.compare.proofs.CoverTableLaws.{Entering}
use Rattle.compare.proofs.cover_table.fill_entries.Given as goal

abbrev pub invariant-loop-i : goal.invariant-loop-i
invariant-loop-i l = Entering l.current.catalog.record.stream.now l.current.catalog.record.pool.now l.types l.initial.cover l.cover l.i l.last
