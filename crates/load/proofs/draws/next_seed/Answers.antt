use Rattle.load.specs.Draws.{next_seed}
use Rattle.load.proofs.draws.next_seed.Goals as goal

pub returns : goal.returns
unfolding next_seed
returns c = rw c.from.ensures
