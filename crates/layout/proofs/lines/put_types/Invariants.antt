use Rattle.record.specs.Scalars.{scalars_of}
use Rattle.record.specs.Reading.{rec}
use Rattle.layout.proofs.LineLaws.{Listing}
use Rattle.layout.proofs.lines.put_types.Given as goal

abbrev pub invariant-loop-handle : goal.invariant-loop-handle
invariant-loop-handle l = Listing (rec l.stream l.pool (scalars_of l.rows)) l.types l.initial.out l.out l.handle-index l.end
