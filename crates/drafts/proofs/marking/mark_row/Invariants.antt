use Rattle.record.specs.CommandTexts.{texts_from}
use lib.ListN.{drop}
use Prim.Native.Nat.{◌+◌, ◌*◌, ◌≤◌}
use Rattle.drafts.proofs.MarkedLaws.{Marking}
use Rattle.drafts.proofs.marking.mark_row.Given as goal

abbrev pub invariant-loop-letter : goal.invariant-loop-letter
invariant-loop-letter l = Marking (texts_from l.x 1 l.letters) l.initial.marks l.marks (texts_from l.x l.i (drop l.letter-index l.letters)) × (l.i ≤ 1 + 8 * l.letter-index)
