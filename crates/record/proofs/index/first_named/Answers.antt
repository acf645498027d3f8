use Rattle.record.proofs.IndexLaws.{sighted-laws, sighted-hit, sighted-miss, link-falls}
use Rattle.record.proofs.index.first_named.Goals as goal
use Rattle.record.proofs.index.first_named.Goals.{then-is_named, else-is_named}

pub loop-link-init : goal.loop-link-init
loop-link-init c = search sighted-laws

pub loop-link-smaller : goal.loop-link-smaller
loop-link-smaller c = search link-falls

pub loop-link-preserved : goal.loop-link-preserved
loop-link-preserved c = elim c.if-is_named.branch [
  | then-is_named w ↦ rw w.found-is (search sighted-hit)
  | else-is_named w ↦ rw w.found-is (search sighted-miss)
]

pub returns : goal.returns
returns c = search sighted-laws
