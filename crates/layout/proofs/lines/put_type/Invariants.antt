use Rattle.record.specs.Scalars.{scalars_of}
use Rattle.record.specs.Reading.{rec}
use Rattle.layout.specs.Handles.{layout_of}
use Rattle.layout.specs.Spots.{spots_left}
use Rattle.layout.proofs.LineLaws.{Lining}
use Rattle.layout.proofs.lines.put_type.Given as goal

abbrev pub invariant-loop-k : goal.invariant-loop-k
invariant-loop-k l =
    Lining (rec l.stream l.pool (scalars_of l.rows)) l.sizes (layout_of (rec l.stream l.pool (scalars_of l.rows)) l.handle) l.initial.out l.at l.out l.cursor l.end

abbrev pub decreases-loop-k : goal.decreases-loop-k
decreases-loop-k l = spots_left l.stream l.cursor
