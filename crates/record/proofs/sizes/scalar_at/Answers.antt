use Rattle.record.proofs.SizeLaws.{scalar-at-is}
use Rattle.record.proofs.sizes.scalar_at.Goals as goal

pub returns : goal.returns
returns c = search scalar-at-is
