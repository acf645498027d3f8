use Rattle.record.proofs.SeekLaws.{after-nearer}
use Rattle.drafts.proofs.FindLaws.{finding-start, finding-none, finding-here, finding-on}
use Rattle.drafts.proofs.find.find_type.Goals as goal

pub loop-at-init : goal.loop-at-init
loop-at-init c = search finding-start

pub returns-then-after-eq0 : goal.returns-then-after-eq0
returns-then-after-eq0 c = search finding-none

pub returns-then-is_named : goal.returns-then-is_named
returns-then-is_named c = search finding-here

pub loop-at-smaller : goal.loop-at-smaller
loop-at-smaller c = search after-nearer

pub loop-at-preserved : goal.loop-at-preserved
loop-at-preserved c = search finding-on
