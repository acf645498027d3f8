use mathlib.Core.Path.{◌∙◌}
use borrow.Author.Tests.{lt-leb}
use Rattle.drafts.proofs.PlaceLaws.{not_in, is-in}
use Rattle.drafts.proofs.places.in_place.Goals as goal

pub returns-then-start-at : goal.returns-then-start-at
returns-then-start-at c = search is-in

pub returns-else-start-at : goal.returns-else-start-at
returns-else-start-at c = lt-leb _ _ c.if-start-at.false ∙ search not_in
