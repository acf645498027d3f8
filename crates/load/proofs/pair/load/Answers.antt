use Rattle.load.proofs.AnswerLaws.{load-late, load-unknown, load-as}
use borrow.Author.Rules.{rules}
use Rattle.load.proofs.pair.load.Goals as goal

pub returns-then-seed-gt2147483647 : goal.returns-then-seed-gt2147483647
returns-then-seed-gt2147483647 c = search load-late

pub returns-in-Some : goal.returns-in-Some
returns-in-Some c = load-as _ _ _ (search rules) _ _ _ c.in-Some.ensures c.write_pair.ensures

pub returns-in-None : goal.returns-in-None
returns-in-None c = load-unknown _ _ _ (search rules) c.in-None.ensures
