use Rattle.texts.specs.Agreement.{Agreed}
use Rattle.texts.proofs.back.pairs_compared.Given as goal

abbrev pub invariant-loop-next : goal.invariant-loop-next
invariant-loop-next l = Agreed l.a l.b l.next
