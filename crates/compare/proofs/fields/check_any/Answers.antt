use Rattle.compare.proofs.NearLaws.{near_none}
use borrow.Author.Rules.{rules}
use Rattle.compare.proofs.fields.check_any.Goals as goal

pub check_places-requires : goal.check_places-requires
check_places-requires c = (search rules, search near_none, search rules)
