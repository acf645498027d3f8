use Rattle.record.proofs.PlaceLaws.{family-laws}
use Rattle.record.proofs.marks.family_fields.Goals as goal

pub returns-in-Some : goal.returns-in-Some
returns-in-Some c = λ i d. search family-laws

pub returns : goal.returns
returns c = λ i d. search family-laws
