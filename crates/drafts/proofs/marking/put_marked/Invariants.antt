use Rattle.drafts.specs.Code.{is_marked}
use Rattle.drafts.specs.Packing.{kept}
use lib.ListN.{drop}
use Rattle.drafts.proofs.PutLaws.{Putting}
use Rattle.drafts.proofs.marking.put_marked.Given as goal

abbrev pub invariant-loop-i : goal.invariant-loop-i
invariant-loop-i l = Putting l.initial.out l.at (kept (is_marked l.marks) 0 l.pool) l.out l.end (kept (is_marked l.marks) l.i (drop l.i l.pool))
