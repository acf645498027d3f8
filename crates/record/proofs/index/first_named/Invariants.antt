use Rattle.record.proofs.IndexLaws.{Sighted}
use Rattle.record.proofs.index.first_named.Given as goal

abbrev pub invariant-loop-link : goal.invariant-loop-link
invariant-loop-link l = Sighted l.stream l.pool l.index l.number l.name l.link l.found

abbrev pub decreases-loop-link : goal.decreases-loop-link
decreases-loop-link l = l.link
