use Rattle.compare.proofs.UnreleasedLaws.{unreleased-laws}
use Rattle.compare.proofs.unreleased.check_nothing_released.Goals as goal

pub returns-in-Some : goal.returns-in-Some
returns-in-Some c = search unreleased-laws

pub returns-in-Some-next : goal.returns-in-Some-next
returns-in-Some-next c = search unreleased-laws

pub returns-in-Some-next-2 : goal.returns-in-Some-next-2
returns-in-Some-next-2 c = search unreleased-laws

pub returns-in-Some-next-3 : goal.returns-in-Some-next-3
returns-in-Some-next-3 c = search unreleased-laws

pub returns-in-Some-next-4 : goal.returns-in-Some-next-4
returns-in-Some-next-4 c = search unreleased-laws

pub returns-in-Some-next-5 : goal.returns-in-Some-next-5
returns-in-Some-next-5 c = search unreleased-laws

pub returns : goal.returns
returns c = search unreleased-laws
