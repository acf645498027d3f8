use Rattle.record.proofs.OwnerLaws.{lead-later, lead-same}
use Rattle.record.proofs.ownership.marked_first.Goals as goal

pub returns-then-mark-least : goal.returns-then-mark-least
returns-then-mark-least c = λ l. search lead-later

pub returns-then-refers_to : goal.returns-then-refers_to
returns-then-refers_to c = λ l. search lead-same
