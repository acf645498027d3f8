use mathlib.Core.Path.{◌≡◌}
use lib.ListN.{length}
use Rattle.drafts.proofs.HoldLaws.{hold-spaced, hold-behind}
use borrow.Author.Rules.{rules}
use Rattle.drafts.proofs.holding.hold.Goals as goal

pub kept_before-end-requires : goal.kept_before-end-requires
kept_before-end-requires c = let a = c.args in let p = c.requires in let l : length a.shelf.starts ≡ 8 = search rules in hold-spaced _ _ _ _ p.0 l _ c.sizes_but-sizes.ensures

pub hold_behind-requires : goal.hold_behind-requires
hold_behind-requires c = let a = c.args in let p = c.requires in let l : length a.shelf.starts ≡ 8 = search rules in (hold-behind _ _ _ _ p.0 l _ c.sizes_but-sizes.ensures _ c.kept_before-end.ensures, p.1)
