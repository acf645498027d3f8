use mathlib.Core.List.{map}
use Rattle.drafts.specs.Shelving.{rows_of, held_size}
use Rattle.drafts.proofs.ClosingLaws.{Filling}
use Rattle.drafts.proofs.closing.held_sizes.Given as goal

abbrev pub invariant-loop-i : goal.invariant-loop-i
invariant-loop-i l = Filling (map held_size (rows_of l.shelf)) l.sizes l.i
