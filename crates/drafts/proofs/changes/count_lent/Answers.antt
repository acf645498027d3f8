use Rattle.layout.proofs.TableLaws.{cut-long}
use borrow.Author.Rules.{rules}
use Rattle.drafts.proofs.changes.count_lent.Goals as goal

pub slice_bounds-count_tables-end-2 : goal.slice_bounds-count_tables-end-2
slice_bounds-count_tables-end-2 c = cut-long _ _ (search rules)

pub slice_bounds-count_tables-end-4 : goal.slice_bounds-count_tables-end-4
slice_bounds-count_tables-end-4 c = cut-long _ _ (search rules)
