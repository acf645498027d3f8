use Rattle.texts.proofs.BackLaws.{unlike_lengths, same-is}
use Rattle.texts.proofs.back.same.Goals as goal

pub returns-then-a-b : goal.returns-then-a-b
returns-then-a-b c = search same-is

pub returns-else-a-b : goal.returns-else-a-b
returns-else-a-b c = search unlike_lengths
