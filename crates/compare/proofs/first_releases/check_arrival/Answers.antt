use Rattle.compare.proofs.FirstReleaseLaws.{arrival-laws}
use Rattle.compare.proofs.first_releases.check_arrival.Goals as goal

pub returns-in-Absent : goal.returns-in-Absent
returns-in-Absent c = search arrival-laws

pub returns-in-Named : goal.returns-in-Named
returns-in-Named c = search arrival-laws

pub returns-in-Unstated : goal.returns-in-Unstated
returns-in-Unstated c = search arrival-laws
