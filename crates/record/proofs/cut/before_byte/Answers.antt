use Rattle.record.proofs.CutLaws.{before-is}
use Rattle.record.proofs.cut.before_byte.Goals as goal

pub returns : goal.returns
returns c = search before-is
