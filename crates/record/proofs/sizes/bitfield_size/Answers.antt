use Rattle.record.proofs.SizeLaws.{bitfield-size-none, bitfield-size-some}
use Rattle.record.proofs.sizes.bitfield_size.Goals as goal

pub returns-in_default : goal.returns-in_default
returns-in_default c = λ f. search bitfield-size-none

pub returns : goal.returns
returns c = λ f. search bitfield-size-some
