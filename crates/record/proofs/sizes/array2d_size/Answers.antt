use Rattle.record.proofs.SizeLaws.{array2d-is}
use Rattle.record.proofs.sizes.array2d_size.Goals as goal

pub returns : goal.returns
returns c = search array2d-is
