use Rattle.load.proofs.StreamLaws.{raised, not-raised}
use Rattle.load.proofs.streams.number_now.Goals as goal

pub returns-in-Accepted : goal.returns-in-Accepted
returns-in-Accepted c = search raised

pub returns-in_default : goal.returns-in_default
returns-in_default c = search not-raised
