use Rattle.load.proofs.AnswerLaws.{parts-put}
use Rattle.load.proofs.pair.put_current_parts.Goals as goal

pub returns : goal.returns
returns c = search parts-put
