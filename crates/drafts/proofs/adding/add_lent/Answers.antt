use Rattle.drafts.proofs.FinishLaws.{built-finished}
use Rattle.drafts.proofs.SettleLaws.{both_small}
use borrow.Author.Rules.{rules}
use Rattle.drafts.proofs.adding.add_lent.Goals as goal

pub build_sum-ends-requires : goal.build_sum-ends-requires
build_sum-ends-requires c = (search both_small, search rules)

pub returns : goal.returns
returns c = search built-finished
