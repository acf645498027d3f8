use borrow.Author.Rules.{rules}
use Rattle.drafts.proofs.HoldLaws.{hold-spaced, hold-need, hold-room, hold-name, hold-over, hold-done}
use Rattle.drafts.proofs.holding.hold_behind.Goals as goal

pub overflow_add-need : goal.overflow_add-need
overflow_add-need c = let p = c.requires in record { fits = hold-need _ _ _ _ p.0.settable p.0.eight _ p.0.sizes-are _ p.0.end_is _ _ p.1 (search rules) }

pub returns-then-held-need : goal.returns-then-held-need
returns-then-held-need c = let p = c.requires in hold-over _ _ _ _ p.0.settable p.0.eight _ p.0.sizes-are _ p.0.end_is _ _ p.1 _ _ c.if-held-need.true c.no_room.ensures c.with_shelf.ensures

pub moved_starts-moved-requires : goal.moved_starts-moved-requires
moved_starts-moved-requires c = let p = c.requires in (p.0.eight, hold-spaced _ _ _ _ p.0.settable p.0.eight _ p.0.sizes-are)

pub hold_at-requires : goal.hold_at-requires
hold_at-requires c = let p = c.requires in hold-room _ _ _ _ p.0.settable p.0.eight _ p.0.sizes-are _ p.0.end_is _ _ p.1 c.if-held-need.false

pub set_row-requires : goal.set_row-requires
set_row-requires c = let p = c.requires in hold-name _ _ _ _ p.0.settable p.0.eight _ p.0.sizes-are _ p.0.end_is _ _ p.1

pub returns : goal.returns
returns c = let p = c.requires in hold-done _ _ _ _ p.0.settable p.0.eight _ p.0.sizes-are _ p.0.end_is _ _ p.1 _ c.moved_starts-moved.ensures _ _ _ _ c.if-held-need.false c.hold_at.ensures c.set_row.ensures c.done.ensures c.with_shelf-2.ensures
