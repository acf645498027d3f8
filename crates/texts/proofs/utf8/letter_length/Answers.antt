use Rattle.texts.proofs.LetterLaws.{length-past, length-plain, length-odd, length_high}
use Rattle.texts.proofs.utf8.letter_length.Goals as goal

pub returns-then-s-at : goal.returns-then-s-at
returns-then-s-at c = search length-past

pub returns-then-is_plain : goal.returns-then-is_plain
returns-then-is_plain c = search length-plain

pub returns-then-a-le127 : goal.returns-then-a-le127
returns-then-a-le127 c = search length-odd

pub returns : goal.returns
returns c = search length_high
