use native.Mathlib.Omega.{arith}
use Rattle.layout.proofs.TableLaws.{cut-long}
use borrow.Author.Rules.{rules}
use Rattle.compare.proofs.compare.check_types.Goals as goal

pub lay-counts-requires : goal.lay-counts-requires
lay-counts-requires c =
    let pre = c.requires in
    record { room = (omega (arith, pre.table_rooms.types-room), omega (arith, pre.table_rooms.scratch-room), omega (arith, pre.table_rooms.sizes-room), omega (arith, pre.table_rooms.shipped-room), omega (arith, pre.table_rooms.old-scratch-room), omega (arith, pre.table_rooms.widths-room)); fact = pre.fact }

pub slice_bounds-check_laid-end-2 : goal.slice_bounds-check_laid-end-2
slice_bounds-check_laid-end-2 c = cut-long _ _ (search rules)

pub slice_bounds-check_laid-end-4 : goal.slice_bounds-check_laid-end-4
slice_bounds-check_laid-end-4 c = cut-long _ _ (search rules)

pub check_laid-requires : goal.check_laid-requires
check_laid-requires c =
    let pre = c.requires in
    record { stream_in_bounds = (omega (arith, pre.table_rooms.marks-room), search rules); fact = (pre.fact, search rules) }
