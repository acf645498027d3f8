use Rattle.compare.proofs.FirstReleaseLaws.{value-arrival-laws}
use Rattle.compare.proofs.first_releases.check_value_arrival.Goals as goal

pub returns-in_default : goal.returns-in_default
returns-in_default c = search value-arrival-laws

pub returns-then-is_dated : goal.returns-then-is_dated
returns-then-is_dated c = search value-arrival-laws

pub returns : goal.returns
returns c = search value-arrival-laws
