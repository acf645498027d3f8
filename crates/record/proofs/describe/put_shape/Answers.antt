use borrow.Enum.Refused.{opened}
use Rattle.record.proofs.DescribeLaws.{shape-array, shape-array2d, shape-named}
use borrow.Author.Rules.{rules}
use Rattle.record.proofs.describe.put_shape.Goals as goal

pub returns-in-InlineArray : goal.returns-in-InlineArray
returns-in-InlineArray c = (search shape-array, search rules)

pub returns-in-InlineArray2d : goal.returns-in-InlineArray2d
returns-in-InlineArray2d c = (search shape-array2d, search rules)

pub returns-in_default : goal.returns-in_default
returns-in_default c = (search (shape-named, opened), search rules)
