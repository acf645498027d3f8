use Rattle.drafts.proofs.MarkedLaws.{marking-start, marking-on, marking-end, texts-on, texts-end}
use native.Mathlib.Omega.{arith}
use Rattle.drafts.proofs.marking.mark_row.Goals as goal

pub loop-letter-init : goal.loop-letter-init
loop-letter-init c = (search marking-start, omega arith)

pub loop-letter-preserved : goal.loop-letter-preserved
loop-letter-preserved c = (search (marking-on, texts-on), omega arith)

pub returns : goal.returns
returns c = search (marking-end, texts-end)
