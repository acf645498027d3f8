use Rattle.record.proofs.OwnerLaws.{none_yet, none-eight, none-marked, none-ends, none_other, one_found}
use Rattle.record.proofs.ownership.marked_name.Goals as goal

pub loop-place-init : goal.loop-place-init
loop-place-init c = search none_yet

pub loop-place-preserved-then-eight_clear : goal.loop-place-preserved-then-eight_clear
loop-place-preserved-then-eight_clear c = search none-eight

pub loop-place-preserved-then-marks-place : goal.loop-place-preserved-then-marks-place
loop-place-preserved-then-marks-place c = search none-marked

pub returns-then-refers_to : goal.returns-then-refers_to
returns-then-refers_to c = search one_found

pub loop-place-preserved : goal.loop-place-preserved
loop-place-preserved c = none_other _ _ _ _ _ _ c.loop-place.invariant _ c.refers_to.ensures c.if-refers_to.false

pub returns : goal.returns
returns c = search none-ends
