use Rattle.layout.proofs.NameLaws.{over-is}
use Rattle.layout.proofs.names.type_over.Goals as goal

pub returns : goal.returns
returns c = search over-is
