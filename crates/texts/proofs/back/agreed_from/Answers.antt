use Rattle.texts.proofs.BackLaws.{none_out}
use Rattle.texts.proofs.back.agreed_from.Goals as goal

pub returns-then-n-eq0 : goal.returns-then-n-eq0
returns-then-n-eq0 c = search none_out
