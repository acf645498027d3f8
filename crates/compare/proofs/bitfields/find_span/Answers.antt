use Rattle.record.proofs.StepLaws.{members-nearer}
use Rattle.compare.proofs.BitfieldLaws.{span-here, span-laws}
use Rattle.compare.proofs.bitfields.find_span.Goals as goal

pub loop-m-init : goal.loop-m-init
loop-m-init c = search span-here

pub returns : goal.returns
returns c = search span-laws

pub returns-then-spans : goal.returns-then-spans
returns-then-spans c = search span-laws

pub loop-m-smaller : goal.loop-m-smaller
loop-m-smaller c = search members-nearer

pub loop-m-preserved : goal.loop-m-preserved
loop-m-preserved c = search span-laws
