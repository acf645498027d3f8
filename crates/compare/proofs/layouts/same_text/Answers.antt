use Rattle.layout.proofs.TableLaws.{cut-long}
use Rattle.compare.proofs.LayoutLaws.{same-described}
use borrow.Author.Rules.{rules}
use Rattle.compare.proofs.layouts.same_text.Goals as goal

pub slice_bounds-same-end : goal.slice_bounds-same-end
slice_bounds-same-end c = cut-long _ _ (search rules)

pub slice_bounds-same-end-2 : goal.slice_bounds-same-end-2
slice_bounds-same-end-2 c = cut-long _ _ (search rules)

pub returns : goal.returns
returns c = search same-described
