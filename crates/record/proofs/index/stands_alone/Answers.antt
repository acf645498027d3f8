use Rattle.record.proofs.IndexLaws.{alone-laws}
use Rattle.record.proofs.index.stands_alone.Goals as goal

pub returns-in_default : goal.returns-in_default
returns-in_default c = search alone-laws

pub returns : goal.returns
returns c = search alone-laws
