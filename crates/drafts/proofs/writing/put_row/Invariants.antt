use Rattle.drafts.specs.Code.{start_of}
use Rattle.drafts.specs.Packing.{row_bytes}
use lib.ListN.{drop}
use Prim.Native.Nat.{◌+◌, ◌*◌, ◌≤◌}
use Rattle.drafts.proofs.PutLaws.{Putting}
use Rattle.drafts.proofs.writing.put_row.Given as goal

abbrev pub invariant-loop-letter : goal.invariant-loop-letter
invariant-loop-letter l = Putting l.initial.out l.at (row_bytes (start_of l.base l.ranks) l.x 1 l.letters) l.out l.end (row_bytes (start_of l.base l.ranks) l.x l.i (drop l.letter-index l.letters)) × (l.i ≤ 1 + 8 * l.letter-index)
