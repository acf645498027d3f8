use Rattle.drafts.proofs.ChangedLaws.{gone-start, gone-over, gone-on, gone-end}
use borrow.Author.Rules.{rules}
use Rattle.drafts.proofs.changes.count_gone.Goals as goal
use Rattle.drafts.proofs.changes.count_gone.Goals.{then-not-is_there, else-not-is_there}

pub loop-handle-init : goal.loop-handle-init
loop-handle-init c = search gone-start

pub loop-handle-preserved : goal.loop-handle-preserved
loop-handle-preserved c =
    elim c.if-not-is_there.branch [
      | then-not-is_there w ↦ rw w.n-is (search (gone-on, rules))
      | else-not-is_there w ↦ rw w.n-is (search (gone-over, rules))
    ]

pub returns : goal.returns
returns c = search gone-end
