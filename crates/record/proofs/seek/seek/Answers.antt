use Rattle.record.proofs.SeekLaws.{passing-here, after-nearer, seek-laws}
use Rattle.record.proofs.seek.seek.Goals as goal

pub loop-at-init : goal.loop-at-init
loop-at-init c = search passing-here

pub returns-then-s-at : goal.returns-then-s-at
returns-then-s-at c = search seek-laws

pub returns-then-end-eq0 : goal.returns-then-end-eq0
returns-then-end-eq0 c = search seek-laws

pub returns-then-byte-number : goal.returns-then-byte-number
returns-then-byte-number c = search seek-laws

pub returns-then-after-eq0 : goal.returns-then-after-eq0
returns-then-after-eq0 c = search seek-laws

pub loop-at-smaller : goal.loop-at-smaller
loop-at-smaller c = search after-nearer

pub loop-at-preserved : goal.loop-at-preserved
loop-at-preserved c = search seek-laws

pub returns-else-passes : goal.returns-else-passes
returns-else-passes c = search seek-laws
