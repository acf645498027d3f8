use Rattle.record.proofs.SeekLaws.{after-end}
use Rattle.record.proofs.seek.after_at.Goals as goal

pub returns-then-s-at : goal.returns-then-s-at
returns-then-s-at c = search after-end
