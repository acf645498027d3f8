use Rattle.record.proofs.SeekLaws.{sought-nearer}
use Rattle.record.proofs.IndexLaws.{scanned-start, scanned-laws}
use Rattle.record.proofs.index.scan_declared.Goals as goal

pub loop-place-init : goal.loop-place-init
loop-place-init c = search scanned-start

pub returns-in_default : goal.returns-in_default
returns-in_default c = search scanned-laws

pub returns-then-same : goal.returns-then-same
returns-then-same c = search scanned-laws

pub loop-place-smaller : goal.loop-place-smaller
loop-place-smaller c = search sought-nearer

pub loop-place-preserved : goal.loop-place-preserved
loop-place-preserved c = search scanned-laws
