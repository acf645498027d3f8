use Prim.Native.Nat.{◌-◌}
use lib.ListN.{length}
use Rattle.record.specs.Scalars.{scalars_of}
use Rattle.record.specs.Shapes.{places}
use Rattle.record.specs.Steps.{fields_at}
use Rattle.record.specs.Reading.{rec, schema_of}
use Rattle.record.proofs.VastLaws.{Ending}
use Rattle.record.proofs.vast.ends_past.Given as goal

abbrev pub invariant-loop-place : goal.invariant-loop-place
invariant-loop-place l = Ending l.stream l.pool (scalars_of l.rows) (places (schema_of (rec l.stream l.pool (scalars_of l.rows))) l.initial.offset (fields_at l.stream l.pool l.initial.at)) l.offset l.at

abbrev pub decreases-loop-place : goal.decreases-loop-place
decreases-loop-place l = length l.stream - l.at
