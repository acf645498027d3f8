use mathlib.Core.Path.{◌≡◌}
use lib.ListN.{drop}
use Rattle.drafts.specs.Shelf.{held_rows, overlapping}
use Rattle.drafts.specs.Shelving.{rows_of}
use Rattle.drafts.proofs.places.is_overlapping.Given as goal

abbrev pub invariant-loop-i : goal.invariant-loop-i
invariant-loop-i l = overlapping (held_rows (rows_of l.shelf)) ≡ overlapping (held_rows (drop l.i (rows_of l.shelf)))
