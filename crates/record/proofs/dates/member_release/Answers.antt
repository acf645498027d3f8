use Rattle.record.proofs.DateLaws.{date-laws}
use Rattle.record.proofs.dates.member_release.Goals as goal

pub returns-in_default : goal.returns-in_default
returns-in_default c = search date-laws

pub returns : goal.returns
returns c = search date-laws
