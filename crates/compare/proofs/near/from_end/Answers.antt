use Rattle.compare.proofs.NearLaws.{end_short}
use borrow.Author.Rules.{rules}
use Rattle.compare.proofs.near.from_end.Goals as goal

pub returns-then-name-k : goal.returns-then-name-k
returns-then-name-k c = (search end_short, search rules)
