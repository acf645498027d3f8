use native.Mathlib.Omega.{arith}
use Rattle.compare.proofs.CompareLaws.{laid_both}
use borrow.Author.Rules.{rules}
use Rattle.compare.proofs.compare.lay.Goals as goal

pub lay_one-m-requires : goal.lay_one-m-requires
lay_one-m-requires c = (search rules, search rules, search rules, search rules)

pub returns : goal.returns
returns c = let pre = c.requires in laid_both _ _ _ _ _ _ _ _ _ _ _ _ (search rules) (search rules) (search rules) (search rules) (omega (arith, pre.room.1))
