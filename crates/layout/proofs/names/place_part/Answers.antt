use Rattle.layout.specs.Handles.{place_part}
use borrow.Author.Rules.{rules}
use Rattle.layout.proofs.names.place_part.Goals as goal

pub returns : goal.returns
unfolding place_part
returns c = search rules
