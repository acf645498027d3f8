use Rattle.layout.proofs.SpotLaws.{spots-nearer}
use Rattle.verdicts.proofs.PassLaws.{handed}
use Rattle.compare.proofs.FieldLaws.{places-here, places-end, places-on, places-stop}
use Rattle.compare.proofs.fields.check_places.Goals as goal

pub loop-was-init : goal.loop-was-init
loop-was-init c = search places-here

pub returns : goal.returns
returns c = search places-end

pub loop-was-smaller : goal.loop-was-smaller
loop-was-smaller c = search spots-nearer

pub loop-was-preserved : goal.loop-was-preserved
loop-was-preserved c = search (places-on, c.check_place.ensures, c.next_spot.ensures, c.in_ok-check_place.was)

pub returns-in_err-check_place : goal.returns-in_err-check_place
returns-in_err-check_place c = search (places-stop, handed, c.in_err-check_place.was)
