use Rattle.layout.proofs.SpotLaws.{spots-nearer}
use Rattle.compare.proofs.StandaloneLaws.{gained-here, gained-none, gained-new, gained-on}
use Rattle.compare.proofs.standalone.gained.Goals as goal

pub loop-x-init : goal.loop-x-init
loop-x-init c = search gained-here

pub returns : goal.returns
returns c = search gained-none

pub returns-in_default-found : goal.returns-in_default-found
returns-in_default-found c = search gained-new

pub loop-x-smaller : goal.loop-x-smaller
loop-x-smaller c = search spots-nearer

pub loop-x-preserved : goal.loop-x-preserved
loop-x-preserved c = search gained-on
