use Rattle.verdicts.proofs.PassLaws.{handed}
use Rattle.compare.proofs.FirstReleaseLaws.{enum-arrival-laws}
use Rattle.compare.proofs.first_releases.check_enum_arrival.Goals as goal

pub returns-then-not-is : goal.returns-then-not-is
returns-then-not-is c = search enum-arrival-laws

pub returns-in_default : goal.returns-in_default
returns-in_default c = search enum-arrival-laws

pub returns-in_err-check_arrival : goal.returns-in_err-check_arrival
returns-in_err-check_arrival c = search (enum-arrival-laws, handed, c.in_err-check_arrival.was)

pub returns : goal.returns
returns c = search (enum-arrival-laws, c.in_ok-check_arrival.was)
