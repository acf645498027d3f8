use Rattle.record.proofs.TextLaws.{kept, ended}
use Rattle.compare.proofs.ShippedLaws.{stored-nearer, key-begin, key-release-laws}
use Rattle.compare.proofs.shipped.stored_release.Goals as goal

pub loop-k-init : goal.loop-k-init
loop-k-init c = search key-begin

pub returns : goal.returns
returns c = search (ended, key-release-laws)

pub loop-k-smaller-then-same : goal.loop-k-smaller-then-same
loop-k-smaller-then-same c = search stored-nearer

pub loop-k-preserved-then-same : goal.loop-k-preserved-then-same
loop-k-preserved-then-same c = search (kept, key-release-laws)

pub loop-k-smaller : goal.loop-k-smaller
loop-k-smaller c = search stored-nearer

pub loop-k-preserved : goal.loop-k-preserved
loop-k-preserved c = search (kept, key-release-laws)
