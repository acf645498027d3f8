use Rattle.record.specs.Release.{first_naming}
use borrow.Author.Rules.{rules}
use Rattle.compare.proofs.release_order.first_naming.Goals as goal

pub returns : goal.returns
unfolding first_naming
returns c = search rules
