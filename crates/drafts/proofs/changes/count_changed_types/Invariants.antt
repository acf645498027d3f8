use Rattle.record.specs.Scalars.{scalars_of}
use Rattle.record.specs.Reading.{rec}
use Rattle.drafts.proofs.ChangedLaws.{ChangedTo}
use Rattle.drafts.proofs.changes.count_changed_types.Given as goal

abbrev pub invariant-loop-handle : goal.invariant-loop-handle
invariant-loop-handle l = ChangedTo (rec l.stream l.pool (scalars_of l.rows)) (rec l.past l.old (scalars_of l.rows)) l.types l.n l.handle-index
