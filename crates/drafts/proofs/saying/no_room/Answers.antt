use Rattle.drafts.proofs.AnswerLaws.{says-room}
use Rattle.drafts.proofs.saying.no_room.Goals as goal

pub returns : goal.returns
returns c = search says-room
