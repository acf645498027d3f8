use Rattle.record.proofs.TextLaws.{kept, ended}
use Rattle.record.proofs.StepLaws.{versions-nearer}
use Rattle.compare.proofs.GenerationLaws.{listed-begin, listed-laws}
use Rattle.compare.proofs.generations.is_listed.Goals as goal

pub loop-v-init : goal.loop-v-init
loop-v-init c = search listed-begin

pub returns : goal.returns
returns c = search (ended, listed-laws)

pub returns-then-is_entry : goal.returns-then-is_entry
returns-then-is_entry c = search (ended, listed-laws)

pub loop-v-smaller : goal.loop-v-smaller
loop-v-smaller c = search versions-nearer

pub loop-v-preserved : goal.loop-v-preserved
loop-v-preserved c = search (kept, listed-laws)
