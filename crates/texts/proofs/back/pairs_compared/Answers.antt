use Rattle.texts.proofs.BackLaws.{pairs-none, pairs-stop, pairs-all, byte-on}
use Rattle.texts.proofs.back.pairs_compared.Goals as goal

pub returns-then-n-b : goal.returns-then-n-b
returns-then-n-b c = search pairs-none

pub returns-then-a-next : goal.returns-then-a-next
returns-then-a-next c = search pairs-stop

pub loop-next-preserved : goal.loop-next-preserved
loop-next-preserved c = search byte-on

pub returns : goal.returns
returns c = search pairs-all
