use Rattle.layout.specs.Handles.{type_name}
use Rattle.layout.proofs.SortLaws.{Keeping}
use Rattle.layout.proofs.sort.keep_last.Given as goal

abbrev pub invariant-loop-i : goal.invariant-loop-i
invariant-loop-i l = Keeping (type_name l.stream l.pool) l.initial.handles l.handles l.i l.n
