use Rattle.compare.proofs.GenerationLaws.{still-laws}
use Rattle.compare.proofs.generations.check_still.Goals as goal

pub returns-in_default : goal.returns-in_default
returns-in_default c = λ q. search still-laws

pub returns : goal.returns
returns c = λ q. search still-laws
