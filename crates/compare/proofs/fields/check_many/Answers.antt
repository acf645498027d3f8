use Rattle.record.proofs.MarkLaws.{clear-made}
use borrow.Author.Rules.{rules}
use Rattle.compare.proofs.fields.check_many.Goals as goal

pub check_near-requires : goal.check_near-requires
check_near-requires c = (search rules, search rules, clear-made 1024, search rules)
