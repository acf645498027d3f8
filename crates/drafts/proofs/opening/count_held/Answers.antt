use Rattle.drafts.proofs.OpeningLaws.{cut-legible, cut-count}
use borrow.Author.Rules.{rules}
use Rattle.drafts.proofs.opening.count_held.Goals as goal

pub count_changed-requires : goal.count_changed-requires
count_changed-requires c = (search cut-legible, search rules)

pub returns : goal.returns
returns c = search cut-count
