use Rattle.layout.proofs.TableLaws.{kept-sorted}
use borrow.Author.Rules.{rules}
use Rattle.layout.proofs.table.arrange_by.Goals as goal

pub returns : goal.returns
returns c = (search kept-sorted, search rules)
