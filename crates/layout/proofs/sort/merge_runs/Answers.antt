use Prim.Native.Nat.{◌+◌, ◌<◌}
use native.Mathlib.Omega.{arith}
use lib.ListN.{length}
use Rattle.layout.proofs.SortLaws.{merged-start, right-inside, left-inside, merged-right, merged-left, merged-end}
use borrow.Author.Rules.{rules}
use Rattle.layout.proofs.sort.merge_runs.Goals as goal
use Rattle.layout.proofs.sort.merge_runs.Goals.{then-second_next, else-second_next}

pub loop-slot-init : goal.loop-slot-init
loop-slot-init c = (search merged-start, search rules)

pub bounds-right-j : goal.bounds-right-j
bounds-right-j c =
    let h : c.loop-slot.i + c.loop-slot.j < length c.loop-slot.out = omega arith in
    right-inside _ _ _ _ _ _ c.loop-slot.invariant.0 _ h c.second_next.ensures c.if-second_next.true

pub bounds-left-i : goal.bounds-left-i
bounds-left-i c =
    let h : c.loop-slot.i + c.loop-slot.j < length c.loop-slot.out = omega arith in
    left-inside _ _ _ _ _ _ c.loop-slot.invariant.0 _ h c.second_next.ensures c.if-second_next.false

pub loop-slot-preserved : goal.loop-slot-preserved
loop-slot-preserved c =
    let h : c.loop-slot.i + c.loop-slot.j < length c.loop-slot.out = omega arith in
    elim c.if-second_next.branch [
      | then-second_next w ↦ (rw (w.out-is, w.i-is, w.j-is, c.loop-slot.invariant.1) (merged-right _ _ _ _ _ _ c.loop-slot.invariant.0 _ h c.second_next.ensures w.if-second_next.true), omega arith)
      | else-second_next w ↦ (rw (w.out-is, w.i-is, w.j-is, c.loop-slot.invariant.1) (merged-left _ _ _ _ _ _ c.loop-slot.invariant.0 _ h c.second_next.ensures w.if-second_next.false), omega arith)
    ]

pub returns : goal.returns
returns c = merged-end _ _ _ _ _ _ c.loop-slot.invariant.0 (omega arith)
