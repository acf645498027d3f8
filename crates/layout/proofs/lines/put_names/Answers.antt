use Rattle.layout.proofs.LineLaws.{put_four}
use Rattle.record.proofs.WriterLaws.{puts-near}
use native.Mathlib.Omega.{arith}
use Rattle.record.specs.Base.{bytes}
use Rattle.layout.proofs.lines.put_names.Goals as goal

pub returns : goal.returns
unfolding bytes
returns c = (search put_four, omega (arith, puts-near))
