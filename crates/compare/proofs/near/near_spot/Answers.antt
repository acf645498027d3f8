use Rattle.compare.proofs.NearLaws.{near-entry}
use Rattle.compare.proofs.near.near_spot.Goals as goal

pub returns : goal.returns
returns c = search near-entry
