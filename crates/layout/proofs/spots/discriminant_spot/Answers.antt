use Rattle.layout.proofs.SpotLaws.{spot-disc}
use Rattle.layout.proofs.spots.discriminant_spot.Goals as goal

pub returns : goal.returns
returns c = λ w t. search spot-disc
