use Rattle.record.proofs.SizeLaws.{enum-size-none, enum-size-some}
use Rattle.record.proofs.sizes.enum_size.Goals as goal

pub returns-in_default : goal.returns-in_default
returns-in_default c = λ f. search enum-size-none

pub returns : goal.returns
returns c = λ f. search enum-size-some
