use Rattle.drafts.proofs.AnswerLaws.{says-refused}
use Rattle.drafts.proofs.saying.refusal.Goals as goal

pub returns : goal.returns
returns c = search says-refused
