use Rattle.compare.proofs.ConstantLaws.{generation-laws}
use Rattle.compare.proofs.constants.is_generation.Goals as goal

pub returns-then-slot_holds : goal.returns-then-slot_holds
returns-then-slot_holds c = search generation-laws

pub returns-then-slot_holds-2 : goal.returns-then-slot_holds-2
returns-then-slot_holds-2 c = search generation-laws

pub returns : goal.returns
returns c = search generation-laws
