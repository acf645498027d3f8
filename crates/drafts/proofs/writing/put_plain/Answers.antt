use native.Mathlib.Nat.{sub-zero}
use Rattle.drafts.proofs.PutLaws.{putting-start, putting-on, putting-end, plain-on, plain_end}
use native.Mathlib.Omega.{arith}
use Rattle.drafts.proofs.writing.put_plain.Goals as goal

pub loop-i-init : goal.loop-i-init
loop-i-init c = putting-start (omega arith) (omega arith) (rw sub-zero)

pub loop-i-preserved : goal.loop-i-preserved
loop-i-preserved c = search (putting-on, plain-on)

pub returns : goal.returns
returns c = search (putting-end, plain_end)
