use Rattle.layout.proofs.SpotLaws.{no-spot, spot-at}
use Rattle.layout.proofs.spots.field_spot.Goals as goal

pub returns-in_default : goal.returns-in_default
returns-in_default c = λ w. search no-spot

pub returns : goal.returns
returns c = λ w. search spot-at
