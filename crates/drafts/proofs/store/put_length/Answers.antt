use Rattle.drafts.specs.Parts.{le4}
use borrow.Author.Rules.{rules}
use Rattle.drafts.proofs.store.put_length.Goals as goal

pub returns : goal.returns
unfolding le4
returns c = search rules
