use Rattle.record.proofs.SeekLaws.{after-nearer}
use Rattle.record.proofs.IndexLaws.{fill_start, fill_end, fill_on, fill-place, fill-entry}
use Rattle.record.proofs.index.fill_room.Goals as goal

pub loop-at-init : goal.loop-at-init
loop-at-init c = search fill_start

pub returns-then-after-eq0 : goal.returns-then-after-eq0
returns-then-after-eq0 c = search fill_end

pub put_declared-requires : goal.put_declared-requires
put_declared-requires c = (search fill-place, search fill-entry)

pub loop-at-smaller : goal.loop-at-smaller
loop-at-smaller c = search after-nearer

pub loop-at-preserved : goal.loop-at-preserved
loop-at-preserved c = search fill_on
