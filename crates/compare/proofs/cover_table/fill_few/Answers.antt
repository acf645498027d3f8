use Rattle.compare.proofs.CoverTableLaws.{owners-few}
use borrow.Author.Rules.{rules}
use Rattle.compare.proofs.cover_table.fill_few.Goals as goal

pub fill_entries-requires : goal.fill_entries-requires
fill_entries-requires c = (owners-few _ _ _ _ _ (search rules) (search rules), search rules)
