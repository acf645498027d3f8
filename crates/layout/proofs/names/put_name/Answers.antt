use Rattle.layout.proofs.NameLaws.{put_front, put_both}
use borrow.Author.Rules.{rules}
use Rattle.layout.proofs.names.put_name.Goals as goal

pub returns-in_default : goal.returns-in_default
returns-in_default c = (search put_front, search rules)

pub returns : goal.returns
returns c = (search put_both, search rules)
