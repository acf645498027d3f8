use Rattle.drafts.proofs.ShapeLaws.{onward-refused, onward-after}
use Rattle.drafts.proofs.judging.onward.Goals as goal

pub returns-then-refused_at : goal.returns-then-refused_at
returns-then-refused_at c = search onward-refused

pub returns : goal.returns
returns c = search onward-after
