use mathlib.Core.Path.{◌∙◌}
use Rattle.drafts.proofs.PlaceLaws.{forged-outside, forged-over}
use Rattle.drafts.proofs.places.is_forged.Goals as goal

pub returns-then-is_outside : goal.returns-then-is_outside
returns-then-is_outside c = c.if-is_outside.true ∙ search forged-outside

pub returns-else-is_outside : goal.returns-else-is_outside
returns-else-is_outside c = search forged-over
