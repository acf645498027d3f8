use Rattle.record.proofs.SeekLaws.{sought-nearer}
use Rattle.layout.proofs.SpotLaws.{others-here, others-laws}
use Rattle.layout.proofs.spots.pass_fields.Goals as goal

pub loop-here-init : goal.loop-here-init
loop-here-init c = search others-here

pub returns : goal.returns
returns c = search others-laws

pub loop-here-smaller : goal.loop-here-smaller
loop-here-smaller c = search sought-nearer

pub loop-here-preserved : goal.loop-here-preserved
loop-here-preserved c = search others-laws
