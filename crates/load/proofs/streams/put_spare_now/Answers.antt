use Rattle.load.proofs.StreamLaws.{spare-constant, spare-kept}
use Rattle.load.proofs.streams.put_spare_now.Goals as goal

pub returns-in-ConstantGone : goal.returns-in-ConstantGone
returns-in-ConstantGone c = search spare-constant

pub returns-in_default : goal.returns-in_default
returns-in_default c = search spare-kept
