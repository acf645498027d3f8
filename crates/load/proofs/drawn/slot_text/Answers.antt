use Rattle.load.specs.Draws.{slot_text}
use Rattle.load.proofs.DrawnLaws.{skipped}
use Rattle.load.proofs.drawn.slot_text.Goals as goal

pub returns-in-0 : goal.returns-in-0
unfolding slot_text
returns-in-0 c = rw c.in-0.is

pub returns-in-1 : goal.returns-in-1
unfolding slot_text
returns-in-1 c = rw c.in-1.is

pub returns-in_default : goal.returns-in_default
unfolding slot_text
returns-in_default c = search skipped
