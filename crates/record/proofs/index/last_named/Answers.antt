use Rattle.record.proofs.IndexLaws.{looking-laws, link-falls}
use Rattle.record.proofs.index.last_named.Goals as goal

pub loop-link-init : goal.loop-link-init
loop-link-init c = search looking-laws

pub returns-then-counts : goal.returns-then-counts
returns-then-counts c = search looking-laws

pub loop-link-smaller : goal.loop-link-smaller
loop-link-smaller c = search link-falls

pub loop-link-preserved : goal.loop-link-preserved
loop-link-preserved c = search looking-laws

pub returns : goal.returns
returns c = search looking-laws
