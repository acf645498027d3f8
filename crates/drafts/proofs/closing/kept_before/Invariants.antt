use Rattle.drafts.proofs.ClosingLaws.{SumTo}
use Rattle.drafts.proofs.closing.kept_before.Given as goal

abbrev pub invariant-loop-start : goal.invariant-loop-start
invariant-loop-start l = SumTo l.starts l.sizes l.end l.sum l.start-iterator.a.rest.now l.start-iterator.b.rest.now
