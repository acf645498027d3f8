use Rattle.record.proofs.CutLaws.{after_is, after_none}
use Rattle.record.proofs.cut.after_byte.Goals as goal

pub returns-then-s-at : goal.returns-then-s-at
returns-then-s-at c = search after_none

pub returns : goal.returns
returns c = search after_is
