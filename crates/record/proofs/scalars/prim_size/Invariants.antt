use mathlib.Core.Path.{◌≡◌}
use Rattle.std.specs.Slice.Iter.{chunks_exact_rest, chunks_exact_size}
use Rattle.record.specs.Scalars.{scalars_of, prim_size}
use Rattle.record.proofs.scalars.prim_size.Given as goal

abbrev pub invariant-loop-row : goal.invariant-loop-row
invariant-loop-row l =
    (goal.iterator-loop-row).can_next l.row-iterator
    × (goal.iterator-loop-row).is_finite l.row-iterator
    × (chunks_exact_size l.row-iterator ≡ 9)
    × (prim_size (scalars_of l.rows) l.word ≡ prim_size (scalars_of (chunks_exact_rest l.row-iterator)) l.word)
