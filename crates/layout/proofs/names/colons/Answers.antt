use Rattle.layout.proofs.NameLaws.{part-laws}
use borrow.Author.Rules.{rules}
use Rattle.layout.proofs.names.colons.Goals as goal

pub returns-then-family_part-eq0 : goal.returns-then-family_part-eq0
returns-then-family_part-eq0 c = (search part-laws, search rules)

pub returns-else-family_part-eq0 : goal.returns-else-family_part-eq0
returns-else-family_part-eq0 c = (search part-laws, search rules)
