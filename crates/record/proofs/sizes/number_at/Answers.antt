use Rattle.record.proofs.SizeLaws.{number-at-is}
use Rattle.record.proofs.sizes.number_at.Goals as goal

pub returns : goal.returns
returns c = search number-at-is
