use Rattle.record.proofs.SeekLaws.{sought-nearer}
use Rattle.record.proofs.VastLaws.{ending-begin, ending-laws}
use Rattle.record.proofs.vast.ends_past.Goals as goal

pub loop-place-init : goal.loop-place-init
loop-place-init c = search ending-begin

pub returns-in_default : goal.returns-in_default
returns-in_default c = search ending-laws

pub returns-then-end-gt-LIMIT : goal.returns-then-end-gt-LIMIT
returns-then-end-gt-LIMIT c = search ending-laws

pub loop-place-smaller : goal.loop-place-smaller
loop-place-smaller c = search sought-nearer

pub loop-place-preserved : goal.loop-place-preserved
loop-place-preserved c = search ending-laws
