use Rattle.drafts.proofs.ShelvedLaws.{name-put}
use borrow.Author.Rules.{rules}
use Rattle.drafts.proofs.shelved.put_name.Goals as goal

pub returns : goal.returns
returns c = (search name-put, search rules)
