use native.Mathlib.Omega.{arith}
use Rattle.compare.proofs.NearLaws.{key-is}
use Rattle.compare.proofs.near.key_of.Goals as goal

pub returns : goal.returns
returns c = (search key-is, omega arith)
