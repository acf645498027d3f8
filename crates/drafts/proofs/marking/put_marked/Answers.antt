use mathlib.Core.Path.{refl}
use Rattle.drafts.proofs.MarkedLaws.{kept_on, kept-over, kept-end}
use Rattle.drafts.proofs.PutLaws.{putting-start, putting-on, putting-same, putting-end}
use native.Mathlib.Omega.{arith}
use borrow.Author.Rules.{rules}
use Rattle.drafts.proofs.marking.put_marked.Goals as goal
use Rattle.drafts.proofs.marking.put_marked.Goals.{then-byte_at-ne0, else-byte_at-ne0}

pub loop-i-init : goal.loop-i-init
loop-i-init c = putting-start (omega arith) (omega arith) refl

pub loop-i-preserved : goal.loop-i-preserved
loop-i-preserved c =
    elim c.if-byte_at-ne0.branch [
      | then-byte_at-ne0 w ↦ rw (w.out-is, w.end-is) (search (putting-on, kept_on, rules))
      | else-byte_at-ne0 w ↦ rw (w.out-is, w.end-is) (search (putting-same, kept-over, rules))
    ]

pub returns : goal.returns
returns c = search (putting-end, kept-end)
