use Rattle.record.proofs.MarkLaws.{clear-made}
use borrow.Author.Rules.{rules}
use Rattle.record.proofs.ownership.owner_sized.Goals as goal

pub owner_lent-requires : goal.owner_lent-requires
owner_lent-requires g c = (search rules, search rules, clear-made _, search rules)
