use Rattle.drafts.proofs.PutLaws.{rank-least, rank-none}
use Rattle.drafts.proofs.writing.rank_at.Goals as goal

pub returns-then-ranks-eq0 : goal.returns-then-ranks-eq0
returns-then-ranks-eq0 c = search rank-none

pub returns : goal.returns
returns c = search rank-least
