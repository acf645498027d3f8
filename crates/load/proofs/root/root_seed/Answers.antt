use mathlib.Core.List.{[]}
use Rattle.load.proofs.RootLaws.{seed-is, few-draws}
use borrow.Author.Rules.{rules}
use Rattle.load.proofs.root.root_seed.Goals as goal

pub overflow_mul-g-2 : goal.overflow_mul-g-2
overflow_mul-g-2 c = record { fits = few-draws _ _ (search rules) (search rules) }

pub returns : goal.returns
returns c = seed-is _ [] 0 _ c.seed_after.ensures
