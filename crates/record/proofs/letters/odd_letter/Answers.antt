use Rattle.record.proofs.LetterLaws.{none-odd, one-odd}
use Rattle.record.proofs.letters.odd_letter.Goals as goal

pub returns-then-at-pool : goal.returns-then-at-pool
returns-then-at-pool c = search none-odd

pub returns : goal.returns
returns c = search one-odd
