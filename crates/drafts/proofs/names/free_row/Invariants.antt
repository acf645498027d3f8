use Rattle.drafts.specs.Shelf.{is_free}
use Rattle.drafts.proofs.RowLaws.{FirstFrom}
use Rattle.drafts.proofs.names.free_row.Given as goal

abbrev pub invariant-loop-i : goal.invariant-loop-i
invariant-loop-i l = FirstFrom is_free l.shelf l.i
