use Rattle.drafts.proofs.AnswerLaws.{says-declined}
use Rattle.drafts.proofs.saying.declined.Goals as goal

pub returns : goal.returns
returns c = search says-declined
