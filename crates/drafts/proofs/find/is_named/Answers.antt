use mathlib.Core.Path.{◌∙◌}
use Rattle.drafts.proofs.FindLaws.{named-text, named_other}
use Rattle.drafts.proofs.find.is_named.Goals as goal

pub returns-then-is_type : goal.returns-then-is_type
returns-then-is_type c = search named-text

pub returns-else-is_type : goal.returns-else-is_type
returns-else-is_type c = c.if-is_type.false ∙ search named_other
