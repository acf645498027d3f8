use Rattle.compare.proofs.FirstReleaseLaws.{key-arrives}
use Rattle.compare.proofs.first_releases.check_key_arrival.Goals as goal

pub returns : goal.returns
returns c = search key-arrives
