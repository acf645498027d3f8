use mathlib.Core.Path.{◌≡◌}
use lib.ListN.{drop}
use Rattle.record.specs.Base.{any}
use Rattle.drafts.specs.Shelf.{held_rows, outside}
use Rattle.drafts.specs.Shelving.{rows_of}
use Rattle.drafts.proofs.places.is_outside.Given as goal

abbrev pub invariant-loop-i : goal.invariant-loop-i
invariant-loop-i l = any (outside l.room) (held_rows (rows_of l.shelf)) ≡ any (outside l.room) (held_rows (drop l.i (rows_of l.shelf)))
