use Rattle.drafts.proofs.ShapeLaws.{along-front, shape-whole, shape-nearer, shape_on, shape-misfit}
use Rattle.drafts.proofs.judging.read_shape.Goals as goal

pub loop-after-init : goal.loop-after-init
loop-after-init c = search along-front

pub returns-then-after-eq0 : goal.returns-then-after-eq0
returns-then-after-eq0 c = search shape-whole

pub loop-after-smaller : goal.loop-after-smaller
loop-after-smaller c = search shape-nearer

pub loop-after-preserved : goal.loop-after-preserved
loop-after-preserved c = search shape_on

pub returns-else-may_add : goal.returns-else-may_add
returns-else-may_add c = search shape-misfit
