use Rattle.record.proofs.BoundLaws.{numbers-laws}
use Rattle.record.proofs.vast.add_numbers.Goals as goal

pub returns-then-s-eq0-3 : goal.returns-then-s-eq0-3
returns-then-s-eq0-3 c = search numbers-laws

pub returns : goal.returns
returns c = search numbers-laws
