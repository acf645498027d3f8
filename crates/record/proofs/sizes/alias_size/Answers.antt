use Rattle.record.proofs.SizeLaws.{alias-size-none, alias-size-some}
use Rattle.record.proofs.sizes.alias_size.Goals as goal

pub returns-in_default : goal.returns-in_default
returns-in_default c = λ f. search alias-size-none

pub returns : goal.returns
returns c = λ f. search alias-size-some
