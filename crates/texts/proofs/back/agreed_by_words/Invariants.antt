use Rattle.texts.specs.Agreement.{Agreed}
use Rattle.texts.proofs.back.agreed_by_words.Given as goal

abbrev pub invariant-loop-left : goal.invariant-loop-left
invariant-loop-left l = Agreed l.a l.b l.left

abbrev pub decreases-loop-left : goal.decreases-loop-left
decreases-loop-left l = l.left
