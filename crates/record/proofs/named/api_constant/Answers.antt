use Rattle.record.proofs.NamedLaws.{named-laws}
use Rattle.record.proofs.named.api_constant.Goals as goal

pub returns : goal.returns
returns c = search named-laws
