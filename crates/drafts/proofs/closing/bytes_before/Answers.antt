use Rattle.drafts.proofs.ClosingLaws.{bytes-least}
use Rattle.drafts.proofs.closing.bytes_before.Goals as goal

pub returns : goal.returns
returns c = search bytes-least
