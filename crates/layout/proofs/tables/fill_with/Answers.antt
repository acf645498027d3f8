use Rattle.layout.proofs.TablesLaws.{tables-are}
use borrow.Author.Rules.{rules}
use Rattle.layout.proofs.tables.fill_with.Goals as goal

pub returns : goal.returns
returns g c = (search tables-are, search rules)
