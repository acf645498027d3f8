use Rattle.load.proofs.RootLaws.{last-added, last-none}
use Rattle.load.proofs.root.put_last.Goals as goal

pub returns-in-Accepted : goal.returns-in-Accepted
returns-in-Accepted c = search last-added

pub returns-in_default : goal.returns-in_default
returns-in_default c = search last-none
