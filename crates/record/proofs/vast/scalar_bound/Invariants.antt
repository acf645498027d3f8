use Prim.Native.Nat.{◌+◌}
use mathlib.Core.Path.{◌≡◌}
use Rattle.std.specs.Slice.Iter.{chunks_exact_rest, chunks_exact_size}
use Rattle.record.specs.Scalars.{scalars_of}
use Rattle.record.specs.Shapes.{capped}
use Rattle.record.specs.Vast.{sum_sizes}
use Rattle.record.proofs.vast.scalar_bound.Given as goal

abbrev pub invariant-loop-row : goal.invariant-loop-row
invariant-loop-row l =
    (goal.iterator-loop-row).can_next l.row-iterator
    × (goal.iterator-loop-row).is_finite l.row-iterator
    × (chunks_exact_size l.row-iterator ≡ 9)
    × (l.total ≡ capped l.total)
    × (capped (l.total + sum_sizes (scalars_of (chunks_exact_rest l.row-iterator))) ≡ capped (sum_sizes (scalars_of l.rows)))
