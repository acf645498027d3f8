use Rattle.record.proofs.DescribeLaws.{times-put}
use Rattle.record.proofs.WriterLaws.{puts-near}
use native.Mathlib.Omega.{arith}
use Rattle.record.specs.Base.{bytes}
use Rattle.record.proofs.describe.put_times.Goals as goal

pub returns : goal.returns
unfolding bytes
returns c = (search times-put, omega (arith, puts-near))
