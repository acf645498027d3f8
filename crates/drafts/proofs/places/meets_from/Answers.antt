use mathlib.Core.Path.{refl}
use Rattle.drafts.proofs.PlaceLaws.{any-on, any_here, any-end}
use Rattle.drafts.proofs.places.meets_from.Goals as goal

pub loop-i-init : goal.loop-i-init
loop-i-init c = refl

pub returns-then-row_meets : goal.returns-then-row_meets
returns-then-row_meets c = search any_here

pub loop-i-preserved : goal.loop-i-preserved
loop-i-preserved c = search any-on

pub returns : goal.returns
returns c = search any-end
