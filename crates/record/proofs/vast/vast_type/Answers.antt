use Rattle.record.proofs.BoundLaws.{small-none}
use Rattle.record.proofs.vast.vast_type.Goals as goal

pub returns-then-within : goal.returns-then-within
returns-then-within c = search small-none
