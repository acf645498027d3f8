use Rattle.record.proofs.OwnerLaws.{found_within, found-beyond}
use borrow.Author.Rules.{rules}
use Rattle.record.proofs.ownership.owner_of.Goals as goal

pub returns-then-stream-le2048 : goal.returns-then-stream-le2048
returns-then-stream-le2048 c = found_within _ _ _ _ (search rules) (search rules)

pub returns-then-stream-gt32768 : goal.returns-then-stream-gt32768
returns-then-stream-gt32768 c = search found-beyond

pub returns : goal.returns
returns c = found_within _ _ _ _ (search rules) (search rules)
