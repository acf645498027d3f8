use native.Mathlib.Omega.{arith}
use Rattle.layout.proofs.SortLaws.{keep-start, keep-take, keep-pass, keep-end}
use borrow.Author.Rules.{rules}
use Rattle.layout.proofs.sort.keep_last.Goals as goal
use Rattle.layout.proofs.sort.keep_last.Goals.{then-ends_run, else-ends_run}

pub loop-i-init : goal.loop-i-init
loop-i-init c = search keep-start

pub loop-i-preserved : goal.loop-i-preserved
loop-i-preserved c =
    elim c.if-ends_run.branch [
      | then-ends_run w ↦ rw (w.handles-is, w.n-is) (search (keep-take, rules))
      | else-ends_run w ↦ rw (w.handles-is, w.n-is) (search (keep-pass, rules))
    ]

pub returns : goal.returns
returns c = (keep-end _ _ _ _ _ c.loop-i.invariant (omega arith), omega arith)
