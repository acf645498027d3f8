use mathlib.Core.Path.{refl}
use Rattle.drafts.proofs.PutLaws.{putting-start, putting-on, putting-end, row_on, row-end}
use native.Mathlib.Omega.{arith}
use Rattle.drafts.proofs.writing.put_row.Goals as goal

pub loop-letter-init : goal.loop-letter-init
loop-letter-init c = (putting-start (omega arith) (omega arith) refl, omega arith)

pub loop-letter-preserved : goal.loop-letter-preserved
loop-letter-preserved c = (search (putting-on, row_on), omega arith)

pub returns : goal.returns
returns c = search (putting-end, row-end)
