use Rattle.compare.proofs.KeptLaws.{keeping_start, keeping-noted, keeping-room, keeping-end, keeping-alike, keeping-on, keeping-nearer}
use Rattle.compare.proofs.kept.pass_kept_fields.Goals as goal

pub loop-after-init : goal.loop-after-init
loop-after-init c = search keeping_start

pub next_kept-requires : goal.next_kept-requires
next_kept-requires c = (search keeping-noted, search keeping-room)

pub returns : goal.returns
returns c = record { kept = search keeping-end; alike = search keeping-alike }

pub loop-after-smaller : goal.loop-after-smaller
loop-after-smaller c = search keeping-nearer

pub loop-after-preserved : goal.loop-after-preserved
loop-after-preserved c = search keeping-on
