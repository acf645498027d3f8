use Rattle.compare.proofs.CompareLaws.{prepared}
use borrow.Author.Rules.{rules}
use Rattle.compare.proofs.compare.prepare.Goals as goal

pub index_with_ends-is-requires : goal.index_with_ends-is-requires
index_with_ends-is-requires c = (search rules, search rules)

pub index_with_ends-was-requires : goal.index_with_ends-was-requires
index_with_ends-was-requires c = (search rules, search rules)

pub returns : goal.returns
returns c = search prepared
