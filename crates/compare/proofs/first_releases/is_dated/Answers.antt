use Rattle.compare.proofs.FirstReleaseLaws.{dated-laws}
use Rattle.compare.proofs.first_releases.is_dated.Goals as goal

pub returns-in-Some : goal.returns-in-Some
returns-in-Some c = search dated-laws

pub returns-in_default : goal.returns-in_default
returns-in_default c = search dated-laws

pub returns-in-Named : goal.returns-in-Named
returns-in-Named c = search dated-laws

pub returns-in-Unstated : goal.returns-in-Unstated
returns-in-Unstated c = search dated-laws
