use Rattle.drafts.proofs.ClosingLaws.{size-free, size-held}
use Rattle.drafts.proofs.closing.held_size.Goals as goal

pub returns-then-letters-eq0 : goal.returns-then-letters-eq0
returns-then-letters-eq0 c = search size-free

pub returns : goal.returns
returns c = search size-held
