use Rattle.record.proofs.PlaceLaws.{place-laws}
use Rattle.record.proofs.marks.next_place.Goals as goal

pub returns-in_default : goal.returns-in_default
returns-in_default c = search place-laws

pub returns : goal.returns
returns c = search place-laws
