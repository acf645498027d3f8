use Rattle.layout.proofs.LineLaws.{spot-put}
use Rattle.record.proofs.WriterLaws.{puts-near}
use native.Mathlib.Omega.{arith}
use Rattle.record.specs.Base.{bytes}
use Rattle.layout.proofs.lines.put_line.Goals as goal

pub returns : goal.returns
unfolding bytes
returns c = (search spot-put, omega (arith, puts-near))
