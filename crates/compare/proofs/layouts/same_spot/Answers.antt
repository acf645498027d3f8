use Rattle.compare.proofs.LayoutLaws.{spot-moved, spot-resized, spot-repadded, spot-renamed, spot-same}
use Rattle.compare.proofs.layouts.same_spot.Goals as goal

pub returns-then-x-y : goal.returns-then-x-y
returns-then-x-y c = search spot-moved

pub returns-then-x-y-2 : goal.returns-then-x-y-2
returns-then-x-y-2 c = search spot-resized

pub returns-then-x-y-3 : goal.returns-then-x-y-3
returns-then-x-y-3 c = search spot-repadded

pub returns-then-same : goal.returns-then-same
returns-then-same c = search spot-same

pub returns : goal.returns
returns c = search spot-renamed
