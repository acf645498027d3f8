use Rattle.record.proofs.GenerationLaws.{generation-laws}
use Rattle.record.proofs.generation.generation_constant.Goals as goal

pub returns-in_default : goal.returns-in_default
returns-in_default c = search generation-laws

pub returns : goal.returns
returns c = search generation-laws
