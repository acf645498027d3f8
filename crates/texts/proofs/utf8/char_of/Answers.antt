use Rattle.texts.proofs.LetterLaws.{char-one, char-two, char-three, char-four, char-none}
use Rattle.texts.proofs.utf8.char_of.Goals as goal

pub returns-then-a-le127 : goal.returns-then-a-le127
returns-then-a-le127 c = search char-one

pub returns-then-is_two : goal.returns-then-is_two
returns-then-is_two c = search char-two

pub returns-then-is_three : goal.returns-then-is_three
returns-then-is_three c = search char-three

pub returns-then-is_four : goal.returns-then-is_four
returns-then-is_four c = search char-four

pub returns : goal.returns
returns c = search char-none
