use Rattle.compare.proofs.NearLaws.{near-sound, near-found}
use Rattle.compare.proofs.fields.find_near.Goals as goal

pub find_spot-requires : goal.find_spot-requires
find_spot-requires c = search near-sound

pub returns : goal.returns
returns c = search near-found
