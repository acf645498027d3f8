use Rattle.record.proofs.DescribeLaws.{put-named}
use borrow.Author.Rules.{rules}
use Rattle.record.proofs.describe.put_pair.Goals as goal

pub returns : goal.returns
returns c = (search put-named, search rules)
