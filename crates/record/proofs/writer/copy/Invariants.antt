use mathlib.Core.Path.{◌≡◌}
use lib.Seq.{paste}
use Rattle.record.proofs.writer.copy.Given as goal

abbrev pub invariant-loop-j : goal.invariant-loop-j
invariant-loop-j l = l.out ≡ paste l.initial.out l.at l.src l.j
