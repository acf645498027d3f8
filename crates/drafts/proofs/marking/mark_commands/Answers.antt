use Rattle.record.proofs.SeekLaws.{after-nearer}
use Rattle.drafts.proofs.MarkedLaws.{marking-start, marking-on, marking-end, marks-stop, marks-on, marks-end}
use Rattle.drafts.proofs.marking.mark_commands.Goals as goal

pub loop-place-init : goal.loop-place-init
loop-place-init c = search marking-start

pub returns-then-after-eq0 : goal.returns-then-after-eq0
returns-then-after-eq0 c = search (marking-end, marks-stop)

pub loop-place-smaller : goal.loop-place-smaller
loop-place-smaller c = search after-nearer

pub loop-place-preserved : goal.loop-place-preserved
loop-place-preserved c = search (marking-on, marks-on)

pub returns : goal.returns
returns c = search (marking-end, marks-end)
