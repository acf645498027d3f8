use Rattle.layout.proofs.TableLaws.{kept-ascending}
use borrow.Author.Rules.{rules}
use Rattle.layout.proofs.table.arrange_handles.Goals as goal

pub returns-then-ascending : goal.returns-then-ascending
returns-then-ascending g c = (search kept-ascending, search rules)
