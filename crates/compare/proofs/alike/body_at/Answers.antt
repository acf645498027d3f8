use Rattle.compare.proofs.AlikeLaws.{body_is}
use Rattle.compare.proofs.alike.body_at.Goals as goal

pub returns : goal.returns
returns c = search body_is
