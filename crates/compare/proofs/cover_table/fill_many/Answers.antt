use Rattle.compare.proofs.CoverTableLaws.{owners-many}
use borrow.Author.Rules.{rules}
use Rattle.compare.proofs.cover_table.fill_many.Goals as goal

pub fill_entries-requires : goal.fill_entries-requires
fill_entries-requires c = (search owners-many, search rules)
