use Rattle.load.specs.Draws.{enum_text}
use Rattle.load.proofs.DrawnLaws.{skipped}
use Rattle.load.proofs.drawn.enum_text.Goals as goal

pub returns-in-0 : goal.returns-in-0
unfolding enum_text
returns-in-0 c = rw c.in-0.is

pub returns-in_default : goal.returns-in_default
unfolding enum_text
returns-in_default c = search skipped
