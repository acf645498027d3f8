use Rattle.drafts.proofs.SettleLaws.{rest-small, rest-built}
use borrow.Author.Rules.{rules}
use Rattle.drafts.proofs.editing.build_rest.Goals as goal

pub pack-ends-requires : goal.pack-ends-requires
pack-ends-requires c = (search rest-small, search rules)

pub returns : goal.returns
returns c = search rest-built
