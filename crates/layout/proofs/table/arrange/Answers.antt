use Rattle.record.proofs.MarkLaws.{clear-made}
use borrow.Author.Rules.{rules}
use Rattle.layout.proofs.table.arrange.Goals as goal

pub arrange_lent-requires : goal.arrange_lent-requires
arrange_lent-requires g c = (search rules, search rules, clear-made g.row.FRONTS)
