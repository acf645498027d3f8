use Rattle.drafts.proofs.HeldLaws.{stated-laws}
use Rattle.drafts.proofs.held.stated.Goals as goal

pub returns-then-b-lt4 : goal.returns-then-b-lt4
returns-then-b-lt4 c = search stated-laws

pub returns : goal.returns
returns c = search stated-laws
