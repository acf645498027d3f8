use Rattle.layout.specs.Handles.{family_part}
use borrow.Author.Rules.{rules}
use Rattle.layout.proofs.names.family_part.Goals as goal

pub returns : goal.returns
unfolding family_part
returns c = search rules
