use Rattle.record.proofs.StepLaws.{values-nearer}
use Rattle.compare.proofs.EnumLaws.{number-here, number-laws}
use Rattle.compare.proofs.enums.find_number.Goals as goal

pub loop-v-init : goal.loop-v-init
loop-v-init c = search number-here

pub returns : goal.returns
returns c = search number-laws

pub returns-then-v-number : goal.returns-then-v-number
returns-then-v-number c = search number-laws

pub loop-v-smaller : goal.loop-v-smaller
loop-v-smaller c = search values-nearer

pub loop-v-preserved : goal.loop-v-preserved
loop-v-preserved c = search number-laws
