use Rattle.drafts.specs.Content.{bytes_at}
use Prim.Native.Nat.{◌-◌}
use Rattle.drafts.proofs.PutLaws.{Putting}
use Rattle.drafts.proofs.writing.put_plain.Given as goal

abbrev pub invariant-loop-i : goal.invariant-loop-i
invariant-loop-i l = Putting l.initial.out l.at (bytes_at l.x 0 l.n) l.out l.end (bytes_at l.x l.i (l.n - l.i))
