use Rattle.compare.proofs.AlikeLaws.{alike-here, alike-so-far, alike-on, alike-nearer}
use Rattle.compare.proofs.alike.pass_places.Goals as goal

pub loop-after-init : goal.loop-after-init
loop-after-init c = search alike-here

pub returns : goal.returns
returns c = search alike-so-far

pub loop-after-smaller : goal.loop-after-smaller
loop-after-smaller c = search alike-nearer

pub loop-after-preserved : goal.loop-after-preserved
loop-after-preserved c = search alike-on
