use Rattle.drafts.proofs.ClosingLaws.{sizes-start, sizes-on, sizes-end}
use Rattle.drafts.proofs.closing.held_sizes.Goals as goal

pub loop-i-init : goal.loop-i-init
loop-i-init c = search sizes-start

pub loop-i-preserved : goal.loop-i-preserved
loop-i-preserved c = search sizes-on

pub returns : goal.returns
returns c = search sizes-end
