use native.Mathlib.Omega.{arith}
use Rattle.compare.proofs.Decimals.{signed_same}
use Rattle.compare.proofs.constants.same_integers.Goals as goal

pub returns : goal.returns
returns c = signed_same _ _ (omega (arith, c.ranges.a.fits)) (omega (arith, c.ranges.b.fits))
