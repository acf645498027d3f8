use Rattle.std.proofs.Common.{length, ◌+◌, ◌-◌, ◌*◌}
use Rattle.record.specs.Marks.{unseen, Led}
use Rattle.record.proofs.MarkLaws.{BodyGoing}
use Rattle.record.proofs.marks.+walk_field_walk_type.Given as goal

-- a walk of a field's type visits a type that was not visited, and a walk of a type begins with one field more
abbrev pub decreases-walk_field : goal.decreases-walk_field
decreases-walk_field l = 2 * unseen l.marks.now

abbrev pub decreases-walk_type : goal.decreases-walk_type
decreases-walk_type l = 2 * unseen l.marks.now + 1

abbrev pub invariant-walk_type-loop-field : goal.invariant-walk_type-loop-field
invariant-walk_type-loop-field l =
    Led l.stream l.pool l.index l.initial.marks l.marks (BodyGoing l.stream l.pool l.mark l.family l.initial.cursor.at l.initial.marks l.marks l.cursor.at)

abbrev pub decreases-walk_type-loop-field : goal.decreases-walk_type-loop-field
decreases-walk_type-loop-field l = length l.stream - l.cursor.at
