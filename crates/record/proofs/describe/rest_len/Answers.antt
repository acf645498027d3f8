use borrow.Enum.Refused.{opened}
use native.Mathlib.Omega.{arith}
use Rattle.record.proofs.DescribeLaws.{array_long, array2d-long, named-long}
use Rattle.record.proofs.describe.rest_len.Goals as goal

pub returns-in-InlineArray : goal.returns-in-InlineArray
returns-in-InlineArray c = (search array_long, omega arith)

pub returns-in-InlineArray2d : goal.returns-in-InlineArray2d
returns-in-InlineArray2d c = (search array2d-long, omega arith)

pub returns-in_default : goal.returns-in_default
returns-in_default c = (search (named-long, opened), omega arith)
