use Rattle.layout.proofs.SpotLaws.{spots-nearer}
use Rattle.compare.proofs.LayoutLaws.{agreed-start, agreed-end, agreed-fewer, agreed-more, agreed-other, agreed-on}
use Rattle.compare.proofs.layouts.same_rest.Goals as goal

pub loop-x-init : goal.loop-x-init
loop-x-init c = search agreed-start

pub returns-in_default-next_spot : goal.returns-in_default-next_spot
returns-in_default-next_spot c = search agreed-more

pub returns-then-not-same_spot : goal.returns-then-not-same_spot
returns-then-not-same_spot c = search agreed-other

pub loop-x-smaller : goal.loop-x-smaller
loop-x-smaller c = search spots-nearer

pub loop-x-preserved : goal.loop-x-preserved
loop-x-preserved c = search agreed-on

pub returns-in_default-next_spot-2 : goal.returns-in_default-next_spot-2
returns-in_default-next_spot-2 c = search agreed-end

pub returns : goal.returns
returns c = search agreed-fewer
