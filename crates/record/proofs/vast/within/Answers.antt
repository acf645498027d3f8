use Rattle.record.proofs.SeekLaws.{after-nearer, after-whole}
use Rattle.record.proofs.BoundLaws.{totalling, total-more, within-is}
use Rattle.record.proofs.vast.within.Goals as goal

pub loop-unit-init : goal.loop-unit-init
loop-unit-init c = (search totalling, search totalling)

pub returns-then-after-eq0 : goal.returns-then-after-eq0
returns-then-after-eq0 c = search within-is

pub add_extra-extra-requires : goal.add_extra-extra-requires
add_extra-extra-requires c = search after-whole

pub loop-unit-smaller : goal.loop-unit-smaller
loop-unit-smaller c = search after-nearer

pub loop-unit-preserved : goal.loop-unit-preserved
loop-unit-preserved c = (search total-more, search total-more)
