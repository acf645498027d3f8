use Rattle.record.proofs.PlaceLaws.{target-laws}
use Rattle.record.proofs.marks.target_at.Goals as goal

pub returns-in_default : goal.returns-in_default
returns-in_default c = λ i. search target-laws

pub returns : goal.returns
returns c = λ i. search target-laws
