use Rattle.compare.proofs.KeptLaws.{kept_next}
use Rattle.compare.proofs.kept.next_kept.Goals as goal

pub returns-then-is_first : goal.returns-then-is_first
returns-then-is_first c = search kept_next
