use Rattle.drafts.proofs.MarkedLaws.{RankedTo}
use Rattle.drafts.proofs.marking.fill_ranks.Given as goal

abbrev pub invariant-loop-i : goal.invariant-loop-i
invariant-loop-i l = RankedTo l.marks l.initial.ranks l.ranks l.sum l.i
