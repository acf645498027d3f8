use Rattle.record.specs.Base.{bytes}
use Rattle.record.proofs.SizeLaws.{scalar-laws}
use Rattle.record.proofs.sizes.scalar_bytes.Goals as goal

pub returns-in_default : goal.returns-in_default
unfolding bytes
returns-in_default c = search scalar-laws

pub returns : goal.returns
returns c = search scalar-laws
