use Prim.Native.Nat.{◌-◌, ◌≤◌}
use Rattle.texts.proofs.LetterLaws.{Stepped}
use Rattle.texts.proofs.utf8.pass_letters.Given as goal

abbrev pub invariant-loop-i : goal.invariant-loop-i
invariant-loop-i l = (l.initial.i ≤ l.i) × Stepped l.pool l.initial.i l.i

abbrev pub decreases-loop-i : goal.decreases-loop-i
decreases-loop-i l = l.end - l.i
