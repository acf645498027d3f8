use Rattle.compare.proofs.GenerationLaws.{against-laws}
use Rattle.compare.proofs.generations.check_against.Goals as goal

pub returns-in_default : goal.returns-in_default
returns-in_default c = search against-laws

pub returns : goal.returns
returns c = search against-laws
