use Rattle.record.proofs.IndexLaws.{no_index}
use Rattle.layout.proofs.TableLaws.{cut-long}
use borrow.Author.Rules.{rules}
use Rattle.layout.proofs.list.list_tiny.Goals as goal

pub fill_with-n-requires : goal.fill_with-n-requires
fill_with-n-requires c = (search rules, search rules, no_index _ _, search rules, search rules, search rules, search rules)

pub slice_bounds-list_tables-end : goal.slice_bounds-list_tables-end
slice_bounds-list_tables-end c = cut-long _ _ (search rules)
