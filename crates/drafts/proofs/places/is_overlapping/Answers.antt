use mathlib.Core.Path.{refl}
use Rattle.drafts.proofs.PlaceLaws.{pairs-on, pairs-here, pairs_end}
use Rattle.drafts.proofs.places.is_overlapping.Goals as goal

pub loop-i-init : goal.loop-i-init
loop-i-init c = refl

pub returns-then-meets_later : goal.returns-then-meets_later
returns-then-meets_later c = search pairs-here

pub loop-i-preserved : goal.loop-i-preserved
loop-i-preserved c = search pairs-on

pub returns : goal.returns
returns c = search pairs_end
