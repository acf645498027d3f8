use Rattle.layout.proofs.SpotLaws.{spot-len}
use Rattle.layout.proofs.spots.length_spot.Goals as goal

pub returns : goal.returns
returns c = λ s t. search spot-len
