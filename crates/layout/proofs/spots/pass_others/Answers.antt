use Rattle.layout.proofs.SpotLaws.{others-here, others-body}
use Rattle.layout.proofs.spots.pass_others.Goals as goal

pub returns-in_default : goal.returns-in_default
returns-in_default c = search others-here

pub returns : goal.returns
returns c = search others-body
