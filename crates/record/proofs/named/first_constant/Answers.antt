use Rattle.record.proofs.NamedLaws.{named-laws}
use Rattle.record.proofs.named.first_constant.Goals as goal

pub returns : goal.returns
returns c = search named-laws
