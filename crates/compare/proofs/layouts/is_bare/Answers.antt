use mathlib.Core.Bool.{false≢true}
use Rattle.compare.proofs.LayoutLaws.{bare-is}
use Rattle.compare.proofs.layouts.is_bare.Goals as goal

pub returns-in_default : goal.returns-in_default
returns-in_default c = λ t. absurd (false≢true t)

pub returns-in_default-seek : goal.returns-in_default-seek
returns-in_default-seek c = λ t p w. search bare-is

pub returns : goal.returns
returns c = λ t. absurd (false≢true t)
