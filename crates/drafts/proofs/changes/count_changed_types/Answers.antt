use Rattle.compare.proofs.FieldLaws.{table-typed}
use Rattle.drafts.proofs.ChangedLaws.{changed-start, changed-over, changed-on, changed-end, count-few}
use borrow.Author.Rules.{rules}
use Rattle.drafts.proofs.changes.count_changed_types.Goals as goal
use Rattle.drafts.proofs.changes.count_changed_types.Goals.{then-not-is_same, else-not-is_same}

pub loop-handle-init : goal.loop-handle-init
loop-handle-init c = search changed-start

pub is_same-requires : goal.is_same-requires
is_same-requires c = (search table-typed, search rules, search rules, search rules)

pub loop-handle-preserved : goal.loop-handle-preserved
loop-handle-preserved c =
    elim c.if-not-is_same.branch [
      | then-not-is_same w ↦ rw w.n-is (search (changed-on, rules))
      | else-not-is_same w ↦ rw w.n-is (search (changed-over, rules))
    ]

pub returns : goal.returns
returns c = (search changed-end, search count-few)
