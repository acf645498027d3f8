use Rattle.drafts.proofs.ClosingLaws.{closing-start, closing-write, closing-add, closing-on, closing-over, closing_end}
use borrow.Author.Rules.{rules}
use Rattle.drafts.proofs.closing.close_up.Goals as goal
use Rattle.drafts.proofs.closing.close_up.Goals.{then-stays, else-stays}

pub loop-i-init : goal.loop-i-init
loop-i-init c = closing-start _ _

pub bounds-held-end : goal.bounds-held-end
bounds-held-end c = search (closing-write, rules)

pub overflow_add-end : goal.overflow_add-end
overflow_add-end c = search (closing-add, rules)

pub loop-i-preserved : goal.loop-i-preserved
loop-i-preserved c =
    elim c.if-stays.branch [
      | then-stays w ↦ rw (w.held-is, w.end-is) (search (closing-on, rules))
      | else-stays w ↦ rw (w.held-is, w.end-is) (search (closing-over, rules))
    ]

pub returns : goal.returns
returns c = search (closing_end, rules)
