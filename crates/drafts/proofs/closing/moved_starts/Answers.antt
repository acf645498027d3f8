use Rattle.drafts.proofs.ClosingLaws.{least-min, moved-start, moved_on, moved-end}
use Rattle.drafts.proofs.closing.moved_starts.Goals as goal

pub loop-i-init : goal.loop-i-init
loop-i-init c = search moved-start

pub loop-i-preserved : goal.loop-i-preserved
loop-i-preserved c = search (moved_on, least-min)

pub returns : goal.returns
returns c = search moved-end
