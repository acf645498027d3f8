use Rattle.drafts.proofs.ChangedLaws.{rooms-made}
use borrow.Author.Rules.{rules}
use Rattle.drafts.proofs.changes.count_changed.Goals as goal

pub count_lent-requires : goal.count_lent-requires
count_lent-requires c = (rooms-made _ (search rules), rooms-made _ (search rules))
