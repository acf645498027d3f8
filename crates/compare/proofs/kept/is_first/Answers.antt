use Rattle.compare.proofs.KeptLaws.{first-new}
use borrow.Author.Rules.{rules}
use Rattle.compare.proofs.kept.is_first.Goals as goal

pub returns : goal.returns
returns c = (search rules, λ t. search first-new)
