use Rattle.texts.proofs.LetterLaws.{tail-test}
use Rattle.texts.proofs.utf8.at_edge.Goals as goal

pub returns : goal.returns
returns c = search tail-test
