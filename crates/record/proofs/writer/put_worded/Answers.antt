use Rattle.record.proofs.WriterLaws.{puts_then, puts-near}
use native.Mathlib.Omega.{arith}
use Rattle.record.proofs.writer.put_worded.Goals as goal

pub returns : goal.returns
returns c = (search puts_then, omega (arith, puts-near))
