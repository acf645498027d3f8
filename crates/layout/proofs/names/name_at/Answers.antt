use Rattle.layout.proofs.NameLaws.{name-is}
use Rattle.record.proofs.WriterLaws.{text-short}
use native.Mathlib.Omega.{arith}
use Rattle.layout.proofs.names.name_at.Goals as goal

pub returns : goal.returns
returns c = (search name-is, omega (arith, text-short))
