use Prim.Native.Nat.{◌-◌}
use lib.ListN.{length}
use Rattle.record.specs.Scalars.{scalars_of}
use Rattle.record.specs.Reading.{rec}
use Rattle.layout.proofs.FieldSizeLaws.{Sizing}
use Rattle.layout.proofs.field_sizes.fill_sizes.Given as goal

abbrev pub invariant-loop-place : goal.invariant-loop-place
invariant-loop-place l = Sizing (rec l.stream l.pool (scalars_of l.rows)) l.index l.initial.sizes l.sizes l.at

abbrev pub decreases-loop-place : goal.decreases-loop-place
decreases-loop-place l = length l.stream - l.at
