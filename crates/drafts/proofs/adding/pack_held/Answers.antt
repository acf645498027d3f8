use Rattle.drafts.proofs.SumLaws.{held-packed}
use Rattle.drafts.proofs.SettleLaws.{rest-small}
use borrow.Author.Rules.{rules}
use Rattle.drafts.proofs.adding.pack_held.Goals as goal

pub pack-requires : goal.pack-requires
pack-requires c = (search rest-small, search rules)

pub returns : goal.returns
returns c = search held-packed
