use Rattle.record.proofs.NamedLaws.{last-unstored-laws}
use Rattle.record.proofs.named.last_unstored.Goals as goal

pub returns-in_default : goal.returns-in_default
returns-in_default c = search last-unstored-laws

pub returns : goal.returns
returns c = search last-unstored-laws
