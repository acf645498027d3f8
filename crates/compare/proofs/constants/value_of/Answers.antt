use Rattle.compare.proofs.ConstantLaws.{holds-laws}
use Rattle.compare.proofs.constants.value_of.Goals as goal

pub returns-then-c : goal.returns-then-c
returns-then-c c = search holds-laws

pub returns : goal.returns
returns c = search holds-laws
