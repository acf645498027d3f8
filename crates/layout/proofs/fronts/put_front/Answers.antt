use Rattle.layout.proofs.FrontLaws.{put-laws}
use Rattle.layout.proofs.fronts.put_front.Goals as goal

pub returns : goal.returns
returns c = search put-laws
