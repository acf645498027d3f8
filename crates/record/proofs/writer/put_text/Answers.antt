use Rattle.record.proofs.WriterLaws.{puts-as, puts-near, text-short}
use native.Mathlib.Omega.{arith}
use Rattle.record.proofs.writer.put_text.Goals as goal

pub returns : goal.returns
returns c = (search puts-as, omega (arith, puts-near, text-short))
