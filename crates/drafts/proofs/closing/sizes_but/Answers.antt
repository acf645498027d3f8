use Rattle.drafts.proofs.ClosingLaws.{size-but}
use Rattle.drafts.proofs.closing.sizes_but.Goals as goal

pub returns : goal.returns
returns c = search size-but
