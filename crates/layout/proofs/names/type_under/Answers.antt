use Rattle.layout.proofs.NameLaws.{under-is}
use Rattle.layout.proofs.names.type_under.Goals as goal

pub returns : goal.returns
returns c = search under-is
