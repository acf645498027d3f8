use Rattle.compare.proofs.LayoutLaws.{place_here, place-nearer, place_none, place-hit, place-miss}
use Rattle.compare.proofs.layouts.find_spot.Goals as goal

pub loop-x-init : goal.loop-x-init
loop-x-init c = search place_here

pub returns : goal.returns
returns c = search place_none

pub returns-then-same : goal.returns-then-same
returns-then-same c = search place-hit

pub loop-x-smaller : goal.loop-x-smaller
loop-x-smaller c = search place-nearer

pub loop-x-preserved : goal.loop-x-preserved
loop-x-preserved c = search place-miss
