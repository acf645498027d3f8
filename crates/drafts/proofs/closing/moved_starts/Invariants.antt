use Rattle.drafts.specs.Shelving.{starts_after}
use Rattle.drafts.proofs.ClosingLaws.{Filling}
use Rattle.drafts.proofs.closing.moved_starts.Given as goal

abbrev pub invariant-loop-i : goal.invariant-loop-i
invariant-loop-i l = Filling (starts_after l.starts l.sizes l.len) l.moved l.i
