use Rattle.load.proofs.AnswerLaws.{pair-no-room, pair-written}
use Rattle.load.proofs.pair.write_pair.Goals as goal

pub returns-then-out-len : goal.returns-then-out-len
returns-then-out-len c = search pair-no-room

pub returns : goal.returns
returns c = search pair-written
