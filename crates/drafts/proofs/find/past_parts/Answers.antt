use Rattle.record.proofs.SeekLaws.{after-nearer}
use mathlib.Core.Path.{refl}
use Rattle.drafts.proofs.FindLaws.{parts_none, parts-on, parts-end}
use Rattle.record.proofs.TextLaws.{kept, ended}
use Rattle.drafts.proofs.find.past_parts.Goals as goal

pub loop-from-init : goal.loop-from-init
loop-from-init c = refl

pub returns-then-after-eq0 : goal.returns-then-after-eq0
returns-then-after-eq0 c = search (ended, parts_none)

pub loop-from-smaller : goal.loop-from-smaller
loop-from-smaller c = search after-nearer

pub loop-from-preserved : goal.loop-from-preserved
loop-from-preserved c = search (kept, parts-on)

pub returns-else-is_part : goal.returns-else-is_part
returns-else-is_part c = search (ended, parts-end)
