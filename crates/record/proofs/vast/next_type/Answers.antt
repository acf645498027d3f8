use Rattle.record.proofs.SeekLaws.{after-nearer}
use Rattle.record.proofs.VastLaws.{onward-here, type-laws}
use Rattle.record.proofs.vast.next_type.Goals as goal

pub loop-at-init : goal.loop-at-init
loop-at-init c = search onward-here

pub returns-then-after-eq0 : goal.returns-then-after-eq0
returns-then-after-eq0 c = search type-laws

pub returns-then-byte-eq9 : goal.returns-then-byte-eq9
returns-then-byte-eq9 c = search type-laws

pub returns-then-opens_plain : goal.returns-then-opens_plain
returns-then-opens_plain c = search type-laws

pub loop-at-smaller : goal.loop-at-smaller
loop-at-smaller c = search after-nearer

pub loop-at-preserved : goal.loop-at-preserved
loop-at-preserved c = search type-laws
