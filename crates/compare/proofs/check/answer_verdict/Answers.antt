use Rattle.compare.proofs.AnswerLaws.{answer-laws}
use Rattle.compare.proofs.check.answer_verdict.Goals as goal

pub returns-in-Ok : goal.returns-in-Ok
returns-in-Ok c = search answer-laws

pub returns-in-Err : goal.returns-in-Err
returns-in-Err c = search answer-laws
