use Rattle.drafts.proofs.AnswerLaws.{says-done}
use Rattle.drafts.proofs.saying.done.Goals as goal

pub returns : goal.returns
returns c = search says-done
