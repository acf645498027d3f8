use Rattle.record.proofs.IndexLaws.{mixed-is}
use borrow.Author.Rules.{rules}
use Rattle.record.proofs.index.mixed.Goals as goal

pub returns : goal.returns
returns c = (search mixed-is, search rules)
