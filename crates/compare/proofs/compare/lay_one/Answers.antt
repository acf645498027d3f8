use borrow.Author.Rules.{rules}
use Rattle.compare.proofs.compare.lay_one.Goals as goal

pub fill_tables-requires : goal.fill_tables-requires
fill_tables-requires c = (search rules, search rules, search rules, search rules, search rules, search rules)

pub returns : goal.returns
returns c = (search rules, search rules)
