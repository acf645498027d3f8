use Rattle.record.proofs.VastLaws.{front-is}
use Rattle.record.proofs.vast.front_end.Goals as goal

pub returns : goal.returns
returns c = search front-is
