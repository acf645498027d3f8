use Rattle.record.proofs.BoundLaws.{numbers-are}
use Rattle.record.proofs.vast.numbers.Goals as goal

pub returns : goal.returns
returns c = search numbers-are
