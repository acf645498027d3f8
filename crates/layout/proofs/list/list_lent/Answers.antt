use Rattle.layout.proofs.TableLaws.{cut-long}
use Rattle.layout.proofs.TablesLaws.{index-filled}
use borrow.Author.Rules.{rules}
use Rattle.layout.proofs.list.list_lent.Goals as goal

pub fill_tables-n-requires : goal.fill_tables-n-requires
fill_tables-n-requires c = (search rules, search rules, search index-filled, search rules, search rules, search rules)

pub slice_bounds-list_tables-end-2 : goal.slice_bounds-list_tables-end-2
slice_bounds-list_tables-end-2 c = cut-long _ _ (search rules)
