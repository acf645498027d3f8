use Rattle.record.proofs.IndexLaws.{Looking}
use Rattle.record.proofs.index.last_named.Given as goal

abbrev pub invariant-loop-link : goal.invariant-loop-link
invariant-loop-link l = Looking l.stream l.pool l.index l.number l.flag l.name l.link

abbrev pub decreases-loop-link : goal.decreases-loop-link
decreases-loop-link l = l.link
