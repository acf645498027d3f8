use Rattle.drafts.proofs.MarkedLaws.{given-none, given-some}
use Rattle.drafts.proofs.marking.mark_given.Goals as goal

pub returns-in_default : goal.returns-in_default
returns-in_default c = search given-none

pub returns : goal.returns
returns c = search given-some
