use borrow.Enum.Refused.{opened}
use Rattle.record.proofs.DescribeLaws.{shape-laws}
use Rattle.record.proofs.describe.shape_at.Goals as goal

pub returns-in-InlineArray : goal.returns-in-InlineArray
returns-in-InlineArray c = search shape-laws

pub returns-in-InlineArray2d : goal.returns-in-InlineArray2d
returns-in-InlineArray2d c = search shape-laws

pub returns-in-Padding : goal.returns-in-Padding
returns-in-Padding c = search shape-laws

pub returns-in_default : goal.returns-in_default
returns-in_default c = search (shape-laws, opened)
