use Rattle.load.proofs.AnswerLaws.{current-measured}
use Rattle.load.proofs.pair.current_len.Goals as goal

pub returns : goal.returns
returns c = current-measured _ c.requires _ _ _ _ c.put_current.ensures
