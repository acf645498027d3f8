use Rattle.record.proofs.DescribeLaws.{put-array}
use borrow.Author.Rules.{rules}
use Rattle.record.proofs.describe.put_array.Goals as goal

pub returns : goal.returns
returns c = (search put-array, search rules)
