use Rattle.load.proofs.AnswerLaws.{released-measured}
use Rattle.load.proofs.pair.released_len.Goals as goal

pub returns : goal.returns
returns c = released-measured _ c.requires _ _ _ c.put_released.ensures
