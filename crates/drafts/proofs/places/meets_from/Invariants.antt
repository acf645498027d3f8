use mathlib.Core.Path.{◌≡◌}
use lib.ListN.{drop}
use Rattle.record.specs.Base.{any}
use Rattle.drafts.specs.Shelf.{held_rows, meets}
use Rattle.drafts.specs.Shelving.{rows_of, place_row}
use Rattle.drafts.proofs.places.meets_from.Given as goal

abbrev pub invariant-loop-i : goal.invariant-loop-i
invariant-loop-i l = any (meets (place_row l.start l.size)) (held_rows (drop l.from (rows_of l.shelf))) ≡ any (meets (place_row l.start l.size)) (held_rows (drop l.i (rows_of l.shelf)))
