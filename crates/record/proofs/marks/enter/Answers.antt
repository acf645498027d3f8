use Rattle.record.proofs.PlaceLaws.{enter-laws}
use Rattle.record.proofs.marks.enter.Goals as goal

pub returns-in_default : goal.returns-in_default
returns-in_default c = λ i. search enter-laws

pub returns-in-Some-slot : goal.returns-in-Some-slot
returns-in-Some-slot c = λ i. search enter-laws

pub returns : goal.returns
returns c = λ i. search enter-laws
