use Rattle.compare.proofs.ConstantLaws.{own-value-laws}
use Rattle.compare.proofs.constants.same_value.Goals as goal

pub returns-in-Integer : goal.returns-in-Integer
returns-in-Integer c = search own-value-laws

pub returns-in-Words : goal.returns-in-Words
returns-in-Words c = search own-value-laws
