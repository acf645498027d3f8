use Rattle.layout.proofs.SortLaws.{sort-start, sort-turn, sort-end}
use borrow.Author.Rules.{rules}
use Rattle.layout.proofs.sort.sort_handles.Goals as goal

pub loop-w-init : goal.loop-w-init
loop-w-init c = (search sort-start, search rules, search rules, search rules)

pub loop-w-preserved : goal.loop-w-preserved
loop-w-preserved c = (search sort-turn, search rules, search rules, search rules)

pub returns : goal.returns
returns c = search sort-end
