use Rattle.record.proofs.PlaceLaws.{body-laws}
use Rattle.record.proofs.marks.type_fields.Goals as goal

pub returns-in_default : goal.returns-in_default
returns-in_default c = λ i. search body-laws

pub returns : goal.returns
returns c = λ i. search body-laws
