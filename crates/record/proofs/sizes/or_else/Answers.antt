use Rattle.record.proofs.SizeLaws.{or-laws}
use Rattle.record.proofs.sizes.or_else.Goals as goal

pub returns-in_default : goal.returns-in_default
returns-in_default c = search or-laws

pub returns : goal.returns
returns c = search or-laws
