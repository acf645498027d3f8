use native.Mathlib.Omega.{arith}
use Rattle.record.specs.Base.{bytes}
use Rattle.record.proofs.WriterLaws.{puts-near}
use Rattle.layout.proofs.LineLaws.{field_put}
use Rattle.layout.proofs.lines.put_field.Goals as goal

pub returns : goal.returns
unfolding bytes
returns c = (search field_put, omega (arith, puts-near))
