use Rattle.record.proofs.DescribeLaws.{type-named, element-named, none_named}
use Rattle.record.proofs.WriterLaws.{puts-as}
use borrow.Author.Rules.{rules}
use Rattle.record.proofs.describe.put_named.Goals as goal

pub returns-in-Some : goal.returns-in-Some
returns-in-Some c = (search (puts-as, type-named), search rules)

pub returns-in-Some-opt_text_at : goal.returns-in-Some-opt_text_at
returns-in-Some-opt_text_at c = (search (puts-as, element-named), search rules)

pub returns : goal.returns
returns c = (search (puts-as, none_named), search rules)
