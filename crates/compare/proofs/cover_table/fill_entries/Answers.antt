use Rattle.compare.proofs.CoverTableLaws.{entering-start, entering-over, entering-put, entering-end}
use Rattle.compare.proofs.cover_table.fill_entries.Goals as goal

pub loop-i-init : goal.loop-i-init
loop-i-init c = search entering-start

pub loop-i-preserved-then-cover-i-eq0 : goal.loop-i-preserved-then-cover-i-eq0
loop-i-preserved-then-cover-i-eq0 c = search entering-over

pub loop-i-preserved : goal.loop-i-preserved
loop-i-preserved c = search entering-put

pub returns : goal.returns
returns c = search entering-end
