use Rattle.layout.proofs.TableLaws.{cut-long}
use Rattle.compare.proofs.ConstantLaws.{table-checked}
use borrow.Author.Rules.{rules}
use Rattle.compare.proofs.constants.check_constants.Goals as goal

pub slice_bounds-check_placed-end-2 : goal.slice_bounds-check_placed-end-2
slice_bounds-check_placed-end-2 c = cut-long _ _ (search rules)

pub returns : goal.returns
returns c = search table-checked
