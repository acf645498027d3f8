use Rattle.layout.proofs.TableLaws.{seek-start, seek-up, seek-down, seek-laws}
use Rattle.layout.proofs.table.find_parts.Goals as goal
use Rattle.layout.proofs.table.find_parts.Goals.{then-types-lo-via-then-types-lo, then-types-lo-via-else-types-lo+then-type_over}

pub loop-lo-init : goal.loop-lo-init
loop-lo-init c = search seek-start

pub loop-lo-preserved-then-type_under : goal.loop-lo-preserved-then-type_under
loop-lo-preserved-then-type_under c = search seek-up

pub loop-lo-preserved : goal.loop-lo-preserved
loop-lo-preserved c = search seek-down

pub returns-then-types-lo : goal.returns-then-types-lo
returns-then-types-lo c =
    elim c.then-types-lo.branch [ then-types-lo-via-then-types-lo w ↦ search seek-laws | then-types-lo-via-else-types-lo+then-type_over w ↦ search seek-laws ]

pub returns : goal.returns
returns c = search seek-laws
