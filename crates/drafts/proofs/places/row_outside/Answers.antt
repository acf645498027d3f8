use mathlib.Core.Path.{ap, ◌∙◌}
use mathlib.Core.Bool.{not}
use borrow.Author.Tests.{eq-eqb}
use Rattle.drafts.proofs.PlaceLaws.{row-free, row-outside}
use Rattle.drafts.proofs.places.row_outside.Goals as goal

pub returns-then-shelf-row-ne0 : goal.returns-then-shelf-row-ne0
returns-then-shelf-row-ne0 c = search row-outside

pub returns-else-shelf-row-ne0 : goal.returns-else-shelf-row-ne0
returns-else-shelf-row-ne0 c = ap not (eq-eqb _ _ c.if-shelf-row-ne0.false) ∙ search row-free
