use Rattle.texts.proofs.BackLaws.{agreed-none, unlike-out, halves-out, half_out}
use Rattle.texts.proofs.back.agreed_by_halves.Goals as goal

pub returns-then-not-same_half : goal.returns-then-not-same_half
returns-then-not-same_half c = search (unlike-out, agreed-none)

pub returns-then-same_half : goal.returns-then-same_half
returns-then-same_half c = search halves-out

pub returns : goal.returns
returns c = search half_out
