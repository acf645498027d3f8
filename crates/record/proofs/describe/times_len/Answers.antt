use native.Mathlib.Omega.{arith}
use Rattle.record.proofs.DescribeLaws.{times_long}
use Rattle.record.proofs.describe.times_len.Goals as goal

pub returns : goal.returns
returns c = (search times_long, omega arith)
