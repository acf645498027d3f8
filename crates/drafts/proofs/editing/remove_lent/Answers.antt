use Rattle.drafts.proofs.FinishLaws.{built-finished}
use Rattle.drafts.proofs.SettleLaws.{both_small}
use Rattle.drafts.proofs.editing.remove_lent.Goals as goal

pub build_rest-ends-requires : goal.build_rest-ends-requires
build_rest-ends-requires c = search both_small

pub returns : goal.returns
returns c = search built-finished
