use Rattle.compare.proofs.ConstantLaws.{other-value-laws}
use Rattle.compare.proofs.constants.integer_is.Goals as goal

pub returns-in-Integer : goal.returns-in-Integer
returns-in-Integer c = search other-value-laws

pub returns-in-Words : goal.returns-in-Words
returns-in-Words c = search other-value-laws
