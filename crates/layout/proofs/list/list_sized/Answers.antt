use borrow.Author.Rules.{rules}
use Rattle.layout.proofs.list.list_sized.Goals as goal

pub list_lent-requires : goal.list_lent-requires
list_lent-requires g c = (search rules, search rules, search rules, search rules, search rules, search rules)
