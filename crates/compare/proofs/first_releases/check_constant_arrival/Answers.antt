use Rattle.compare.proofs.FirstReleaseLaws.{constant-arrival-laws}
use Rattle.compare.proofs.first_releases.check_constant_arrival.Goals as goal

pub returns-then-not-is : goal.returns-then-not-is
returns-then-not-is c = search constant-arrival-laws

pub returns-in_default : goal.returns-in_default
returns-in_default c = search constant-arrival-laws

pub returns : goal.returns
returns c = search constant-arrival-laws
