use Rattle.record.proofs.WordLaws.{front-is}
use Rattle.record.proofs.words.front_of.Goals as goal

pub returns-then-s-ge4 : goal.returns-then-s-ge4
returns-then-s-ge4 c = search front-is

pub returns : goal.returns
returns c = search front-is
