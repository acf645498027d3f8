use Rattle.compare.proofs.AlikeLaws.{numbers-alike}
use Rattle.compare.proofs.alike.alike_numbers.Goals as goal

pub returns : goal.returns
returns c = λ t. search numbers-alike
