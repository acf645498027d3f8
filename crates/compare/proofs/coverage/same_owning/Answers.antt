use Rattle.layout.proofs.TableLaws.{cut-long}
use Rattle.compare.proofs.CoverageLaws.{owning-family, owning-same}
use borrow.Author.Rules.{rules}
use Rattle.compare.proofs.coverage.same_owning.Goals as goal

pub returns-then-one_family : goal.returns-then-one_family
returns-then-one_family c = search owning-family

pub slice_bounds-before_colons-end : goal.slice_bounds-before_colons-end
slice_bounds-before_colons-end c = cut-long _ _ (search rules)

pub slice_bounds-before_colons-end-2 : goal.slice_bounds-before_colons-end-2
slice_bounds-before_colons-end-2 c = cut-long _ _ (search rules)

pub returns : goal.returns
returns c = search owning-same
