use Rattle.load.specs.Draws.{was_text}
use Rattle.load.proofs.DrawnLaws.{skipped}
use Rattle.load.proofs.drawn.was_text.Goals as goal

pub returns-in-0 : goal.returns-in-0
unfolding was_text
returns-in-0 c = rw c.in-0.is

pub returns-in-1 : goal.returns-in-1
unfolding was_text
returns-in-1 c = rw c.in-1.is

pub returns-in-2 : goal.returns-in-2
unfolding was_text
returns-in-2 c = rw c.in-2.is

pub returns-in_default : goal.returns-in_default
unfolding was_text
returns-in_default c = search skipped
