use Rattle.drafts.proofs.ChangedLaws.{GoneTo}
use Rattle.drafts.proofs.changes.count_gone.Given as goal

abbrev pub invariant-loop-handle : goal.invariant-loop-handle
invariant-loop-handle l = GoneTo l.past l.old l.shipped l.stream l.pool l.types l.n l.handle-index
