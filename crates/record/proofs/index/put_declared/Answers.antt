use Rattle.record.proofs.IndexLaws.{hash-small, put-laws}
use borrow.Author.Rules.{rules}
use Rattle.record.proofs.index.put_declared.Goals as goal

pub put-requires : goal.put-requires
put-requires c = (search hash-small, search rules, search rules)

pub returns-then-declares : goal.returns-then-declares
returns-then-declares c = search put-laws

pub returns-else-declares : goal.returns-else-declares
returns-else-declares c = search put-laws
