use Rattle.drafts.specs.Shelf.{is_named}
use Rattle.drafts.proofs.RowLaws.{FirstFrom}
use Rattle.drafts.proofs.names.row_of.Given as goal

abbrev pub invariant-loop-i : goal.invariant-loop-i
invariant-loop-i l = FirstFrom (is_named l.name) l.shelf l.i
