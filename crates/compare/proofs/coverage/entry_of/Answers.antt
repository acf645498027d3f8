use Rattle.layout.proofs.TableLaws.{cut-long}
use Rattle.compare.proofs.CoverageLaws.{entry_read}
use borrow.Author.Rules.{rules}
use Rattle.compare.proofs.coverage.entry_of.Goals as goal

pub slice_bounds-before_colons-end : goal.slice_bounds-before_colons-end
slice_bounds-before_colons-end c = cut-long _ _ (search rules)

pub returns : goal.returns
returns c = λ o. search entry_read
