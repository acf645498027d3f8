use Rattle.compare.proofs.FieldLaws.{place-padding, place-gone, place-there}
use Rattle.compare.proofs.fields.check_place.Goals as goal

pub returns-then-was : goal.returns-then-was
returns-then-was c = search place-padding

pub returns-in_default : goal.returns-in_default
returns-in_default c = search place-gone

pub returns : goal.returns
returns c = search place-there
