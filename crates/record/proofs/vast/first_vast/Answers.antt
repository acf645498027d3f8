use Rattle.record.proofs.TextLaws.{kept, ended}
use Rattle.record.proofs.VastLaws.{vast-laws, plain-nearer, front-nearer}
use Rattle.record.proofs.vast.first_vast.Goals as goal

pub loop-at-init : goal.loop-at-init
loop-at-init c = rw c.new-cursor.ensures

pub returns-in-NoType : goal.returns-in-NoType
returns-in-NoType c = search (ended, vast-laws)

pub returns-then-ends_past : goal.returns-then-ends_past
returns-then-ends_past c = search (ended, vast-laws)

pub loop-at-smaller-in-Plain : goal.loop-at-smaller-in-Plain
loop-at-smaller-in-Plain c = search plain-nearer

pub loop-at-preserved-in-Plain : goal.loop-at-preserved-in-Plain
loop-at-preserved-in-Plain c = search (kept, vast-laws)

pub returns-then-family_ends_past : goal.returns-then-family_ends_past
returns-then-family_ends_past c = search (ended, vast-laws)

pub loop-at-smaller : goal.loop-at-smaller
loop-at-smaller c = search front-nearer

pub loop-at-preserved : goal.loop-at-preserved
loop-at-preserved c = search (kept, vast-laws)
